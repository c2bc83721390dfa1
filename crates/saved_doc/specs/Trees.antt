-- Trees that stand for parts of a document, and how the logic stores a document.
use Rattle.std.specs.Prelude.{Bool, true, false, List, Option, refl}
use Rattle.std.specs.Coded.{Coded, code_by, coded×, coded_ℕ, coded_list, coded_option}
use Rattle.base_model.specs.Keyed.{Text}
use Rattle.document_model.specs.Documents.{Doc}
use Rattle.document_model.specs.declared.reference.Ref.{Ref}
use Rattle.document_model.specs.contracts.reference.Ref as reference
use Rattle.so_js.specs.Code.{js_code}
use Rattle.so_js.specs.declared.js.Js.{Js, out-Js}
use Rattle.so_js.specs.declared.js.Js.TheOpen.{Js-F}
use Rattle.version_token.specs.declared.Ver.{Ver}
use Rattle.version_token.specs.contracts.Ver as version

abbrev is_object_at : Js-F Js → Bool
is_object_at (Js-F.Object ms) = true
is_object_at _ = false

-- an object
abbrev pub is_object : Js → Bool
is_object js = is_object_at (out-Js js)

abbrev Parts : Type 0
Parts = Text × (Js × (List Ref × (Option Text × (Option (List Text) × (Option Ver × (Option Ver × (Option Text × Option Text)))))))

abbrev text_code : Coded Text
text_code = coded_list coded_ℕ

-- a document is stored as the tuple of its members
abbrev pub doc_code : Coded (Doc Js)
doc_code =
    code_by Parts (coded× text_code (coded× js_code (coded× (coded_list reference.the_row.coded) (coded× (coded_option text_code) (coded× (coded_option (coded_list text_code))
    (coded× (coded_option version.the_row.coded) (coded× (coded_option version.the_row.coded) (coded× (coded_option text_code) (coded_option text_code)))))))))
    (λ d. (d.type_name, (d.attributes, (d.references, (d.namespace, (d.namespaces, (d.stamp, (d.core, (d.updated_at, d.origin)))))))))
    (λ p. record {
      type_name = p.0;
      attributes = p.1.0;
      references = p.1.1.0;
      namespace = p.1.1.1.0;
      namespaces = p.1.1.1.1.0;
      stamp = p.1.1.1.1.1.0;
      core = p.1.1.1.1.1.1.0;
      updated_at = p.1.1.1.1.1.1.1.0;
      origin = p.1.1.1.1.1.1.1.1;
    })
    (λ d. refl)
