use Rattle.std.proofs.Common.{◌≡◌, ◌+◌, ◌≤◌, ℕ, [], length, refl, ◌∙◌, ap, arith}
use Rattle.std.proofs.lemmas.Result.{IfOk-weaker, IfErr-at_err}
use Rattle.store_words.specs.Serving.{Store}
use Rattle.store_words.specs.declared.link.LinkError.TheVariants.{JournalFull}
use Rattle.store_words.specs.Links.{Rose}
use Rattle.call_words.specs.Mapped.{call_of}
use Rattle.object_repo.specs.Performing.{Stops}
use Rattle.own_link.specs.Calling.{requests_on}
use Rattle.own_link.proofs.Sends.{met_is_full}
use Rattle.own_link.proofs.Steps.{performs_step, stops_full}
use Rattle.own_link.proofs.calling.performed_on.Goals as goal

pub returns-clause-answer : goal.returns-clause-answer
returns-clause-answer c =
    let opening = ap (λ (o : Store × (ℕ × ℕ)). o.0) c.perform-made.ensures.origin in
    IfOk-weaker c.perform-made.result _ _
    (λ answer performs. (performs_step c.args.reg.now (call_of c.args.call.now) c.args.tag c.args.link.now.core c.perform-made.new.link.core answer c.stands.ensures.journaled c.stands-2.ensures.journaled opening performs).told)
    c.perform-made.ensures.ok

pub returns-clause-store : goal.returns-clause-store
returns-clause-store c =
    let opening = ap (λ (o : Store × (ℕ × ℕ)). o.0) c.perform-made.ensures.origin in
    IfOk-weaker c.perform-made.result _ _
    (λ answer performs. (performs_step c.args.reg.now (call_of c.args.call.now) c.args.tag c.args.link.now.core c.perform-made.new.link.core answer c.stands.ensures.journaled c.stands-2.ensures.journaled opening performs).store)
    c.perform-made.ensures.ok

pub returns-clause-requests : goal.returns-clause-requests
returns-clause-requests c =
    let opening = ap (λ (o : Store × (ℕ × ℕ)). o.0) c.perform-made.ensures.origin in
    IfOk-weaker c.perform-made.result _ _
    (λ answer performs. (performs_step c.args.reg.now (call_of c.args.call.now) c.args.tag c.args.link.now.core c.perform-made.new.link.core answer c.stands.ensures.journaled c.stands-2.ensures.journaled opening performs).requests)
    c.perform-made.ensures.ok

pub returns-clause-fits : goal.returns-clause-fits
returns-clause-fits c =
    let opening = ap (λ (o : Store × (ℕ × ℕ)). o.0) c.perform-made.ensures.origin in
    let limit : c.perform-made.new.link.core.limit ≡ c.args.link.now.core.limit = ap (λ (o : Store × (ℕ × ℕ)). o.1.0) c.perform-made.ensures.origin in
    let within : length c.perform-made.new.link.core.journal ≤ c.perform-made.new.link.core.limit = c.stands-2.ensures.journaled.within in
    IfOk-weaker c.perform-made.result _ _
    (λ answer performs.
    let made : length c.perform-made.new.link.core.journal ≡ length c.args.link.now.core.journal + requests_on c.args.reg.now c.args.link.now.core.store (call_of c.args.call.now) =
    (performs_step c.args.reg.now (call_of c.args.call.now) c.args.tag c.args.link.now.core c.perform-made.new.link.core answer c.stands.ensures.journaled c.stands-2.ensures.journaled opening performs).requests in
    omega (arith, made, within, limit))
    c.perform-made.ensures.ok

pub returns-clause-full : goal.returns-clause-full
returns-clause-full c = λ n e.
    let opening = ap (λ (o : Store × (ℕ × ℕ)). o.0) c.perform-made.ensures.origin in
    let limit = ap (λ (o : Store × (ℕ × ℕ)). o.1.0) c.perform-made.ensures.origin in
    let stops = IfErr-at_err (λ error. Stops c.args.reg.now (call_of c.args.call.now) [] c.args.tag c.args.link.now.core.journal c.perform-made.new.link.core.journal error) e c.perform-made.ensures.err in
    let met = IfErr-at_err
    (λ error. (m : ℕ) → error ≡ JournalFull m → (m ≡ c.args.link.now.core.limit) × Rose c.args.link.now.full_answers c.perform-made.new.link.full_answers) e c.perform-made.ensures.full n refl in
    let full = met_is_full c.perform-made.new.link.core c.args.link.now.full_answers c.perform-made.new.link.full_answers c.stands-2.ensures.met met.1 in
    let fewer = stops_full c.args.reg.now (call_of c.args.call.now) c.args.tag n c.args.link.now.core c.perform-made.new.link.core c.stands.ensures.journaled c.stands-2.ensures.journaled opening (full ∙ limit) stops in
    (met.0, fewer)
