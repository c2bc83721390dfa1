use Rattle.std.proofs.Common.{◌≡◌, ap, ◌∙◌, rules, arith}
use Rattle.std.proofs.lemmas.Grind.{common_steps}
use Rattle.so_js.specs.Tree.{is_sound}
use Rattle.so_js.specs.declared.js.Js.TheVariants.{Object}
use Rattle.saved_doc.specs.Reading.{doc_in}
use Rattle.saved_doc.specs.Writing.{doc_js}
use Rattle.saved_doc.proofs.RoundTrip.{doc_in-doc_js}
use Rattle.saved_doc.proofs.SoundLaws.{is_sound-doc_js}
use Rattle.saved_doc.proofs.writing.to_js.Goals as goal

written : (c : goal.In_ok-members) → Object c.in_ok-members.members ≡ doc_js c.args.doc.now
written c = first_of (search rules, grind (arith, common_steps))

pub returns-clause-sound : goal.returns-clause-sound
returns-clause-sound c =
    ap is_sound (written c) ∙ rw (← c.doc.view_is) (is_sound-doc_js _ c.doc.invariant.0 c.doc.invariant.1)

pub returns-clause-reads_back : goal.returns-clause-reads_back
returns-clause-reads_back c = λ stored.
    ap doc_in (written c) ∙ doc_in-doc_js c.args.doc.now (rw (← c.doc.view_is) c.doc.invariant.0) (rw (← c.doc.view_is) c.doc.invariant.2) stored
