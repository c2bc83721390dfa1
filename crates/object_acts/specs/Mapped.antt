-- What acts, deeds and rows of the code are in the definitions.
use Rattle.so_js.specs.declared.js.Js.{Js}
use Rattle.call_model.specs.Acts as model
use Rattle.call_model.specs.Acts.Deed.{Deny, Make, Remake, Drop}
use Rattle.call_model.specs.Calls as calls
use Rattle.call_model.specs.Calls.Act.{Create, Update, Delete, Share}
use Rattle.call_words.specs.Mapped.{new_object_of, change_of}
use Rattle.object_acts.specs.declared.acts.Act.{Act}
use Rattle.object_acts.specs.declared.acts.Act.TheVariants as act
use Rattle.object_acts.specs.declared.deeds.Deed.{Deed}
use Rattle.object_acts.specs.declared.deeds.Deed.TheVariants as deed
use Rattle.object_acts.specs.declared.deeds.Judged.{Judged}
use Rattle.object_acts.specs.declared.deeds.Judged.TheVariants as judged

abbrev pub act_of : Act → calls.Act Js
act_of (act.Create object overwrite time) = Create (new_object_of object) overwrite time
act_of (act.Update change time) = Update (change_of change) time
act_of (act.Delete target force) = Delete target force
act_of (act.Share target add remove time) = Share target add remove time

abbrev pub deed_of : Deed → model.Deed Js
deed_of (deed.Make doc) = Make doc
deed_of (deed.Remake seen doc) = Remake seen doc
deed_of (deed.Drop seen) = Drop seen

abbrev pub judged_of : Judged → model.Deed Js
judged_of (judged.Denied refusal) = Deny refusal
judged_of (judged.Does deed) = deed_of deed
