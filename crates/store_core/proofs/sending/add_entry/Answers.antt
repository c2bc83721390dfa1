use Rattle.std.proofs.Common.{◌≡◌, [], ◌∷◌, ◌++◌, length, ap, ◌∙◌, arith}
use Rattle.store_words.specs.declared.entry.Entry.{Entry}
use Rattle.store_core.proofs.Journals.{goes_on, placed, entry_with}
use Rattle.store_core.proofs.sending.add_entry.Goals as goal

pub returns-in-Ok-answer_twice-clause-entry : goal.returns-in-Ok-answer_twice-clause-entry
returns-in-Ok-answer_twice-clause-entry c =
    let e : Entry = record { actor = c.args.actor; tag = c.args.tag; how = c.args.how; request = c.in-Ok.copy; reply = c.in-Ok-answer_twice.kept } in
    c.set.ensures ∙ placed c.args.journal.now c.push.new.self _ e c.len-place.result c.len-place.ensures c.in-Ok-push.ensures.ok
    ∙ ap (λ (x : Entry). c.args.journal.now ++ x ∷ []) (entry_with c.args.actor c.args.tag c.args.how c.in-Ok.copy c.args.request.now c.in-Ok-answer_twice.kept c.in-Ok-answer_twice.reply c.in-Ok.ensures.cases c.in-Ok-answer_twice.ensures.copy)

pub returns-in-Ok-answer_twice-clause-goes_on : goal.returns-in-Ok-answer_twice-clause-goes_on
returns-in-Ok-answer_twice-clause-goes_on c = λ opening limit j l.
    let e : Entry = record { actor = c.args.actor; tag = c.args.tag; how = c.args.how; request = c.in-Ok.copy; reply = c.in-Ok-answer_twice.kept } in
    let f : Entry = record { actor = c.args.actor; tag = c.args.tag; how = c.args.how; request = c.args.request.now; reply = c.in-Ok-answer_twice.reply } in
    let grown : c.set.new.self ≡ c.args.journal.now ++ f ∷ [] =
    c.set.ensures ∙ placed c.args.journal.now c.push.new.self _ e c.len-place.result c.len-place.ensures c.in-Ok-push.ensures.ok
    ∙ ap (λ (x : Entry). c.args.journal.now ++ x ∷ []) (entry_with c.args.actor c.args.tag c.args.how c.in-Ok.copy c.args.request.now c.in-Ok-answer_twice.kept c.in-Ok-answer_twice.reply c.in-Ok.ensures.cases c.in-Ok-answer_twice.ensures.copy) in
    goes_on opening c.args.engine.now c.answer_twice.new.self limit c.args.journal.now c.set.new.self f j c.in-Ok-answer_twice.ensures.ok grown (omega arith) (c.in-Ok-answer_twice.ensures.room (length c.args.journal.now) c.requires.short j.room)
