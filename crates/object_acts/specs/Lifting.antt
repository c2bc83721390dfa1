-- The attributes of a new object, by the stamp that they come with.
use Rattle.std.specs.Prelude.{Option, Some, None}
use Rattle.so_js.specs.declared.js.Js.{Js}
use Rattle.transform_ops.specs.declared.op.Op.{Op}
use Rattle.version_token.specs.declared.Ver.{Ver}
use Rattle.document_model.specs.Registries.{Known}
use Rattle.call_model.specs.Acts.{lifted_above}
use Rattle.call_words.specs.Product.{product_words}

-- with the operations of the versions above the stamp, none of a type that isn't known
abbrev pub lifted_from : Option Ver → Option (Known Op) → Js → Js
lifted_from stamp None js = js
lifted_from stamp (Some t) js = lifted_above product_words stamp t.steps js
