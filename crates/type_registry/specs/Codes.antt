-- How the logic stores registries and their parts.
use Rattle.std.specs.Prelude.{List, Option, refl}
use Rattle.std.specs.Coded.{Coded, code_by, coded×, coded_ℕ, coded_list, coded_option}
use Rattle.base_model.specs.Keyed.{Text}
use Rattle.document_model.specs.Registries.{Known, Registry}
use Rattle.space_scope.specs.declared.kind.Kind.{Kind}
use Rattle.space_scope.specs.contracts.kind.Kind as kind
use Rattle.transform_ops.specs.declared.op.Op.{Op}
use Rattle.transform_ops.specs.contracts.op.Op as op
use Rattle.version_token.specs.declared.Ver.{Ver}
use Rattle.version_token.specs.contracts.Ver as version

abbrev text_code : Coded Text
text_code = coded_list coded_ℕ

abbrev pub step_code : Coded (Ver × List Op)
step_code = coded× version.the_row.coded (coded_list op.the_row.coded)

abbrev Parts : Type 0
Parts = Kind × (Option Ver × List (Ver × List Op))

-- what is known of a type is stored as the tuple of its members
abbrev pub known_code : Coded (Known Op)
known_code =
    code_by Parts (coded× kind.the_row.coded (coded× (coded_option version.the_row.coded) (coded_list step_code)))
    (λ t. (t.kind, (t.shareable_at, t.steps)))
    (λ p. record { kind = p.0; shareable_at = p.1.0; steps = p.1.1 })
    (λ t. refl)

abbrev pub listed_code : Coded (Text × Known Op)
listed_code = coded× text_code known_code

abbrev Whole : Type 0
Whole = Ver × (List (Text × Known Op) × List Text)

-- a registry is stored as the tuple of its members
abbrev pub registry_code : Coded (Registry Op)
registry_code =
    code_by Whole (coded× version.the_row.coded (coded× (coded_list listed_code) (coded_list text_code)))
    (λ r. (r.version, (r.types, r.removed)))
    (λ p. record { version = p.0; types = p.1.0; removed = p.1.1 })
    (λ r. refl)
