use Rattle.std.proofs.Common.{◌≡◌, ◌+◌, ◌∷◌, [], ◌++◌, List, drop, true, sym, ap, ◌∙◌, rules, arith}
use Rattle.std.proofs.lemmas.Grind.{common_steps}
use Rattle.so_js.specs.Tree.{are_rising, keys_of}
use Rattle.so_js.specs.Printing.{members_are_sound}
use Rattle.so_js.specs.declared.js.Js.{Js}
use Rattle.so_js.specs.declared.js.Member.{Member}
use Rattle.call_words.specs.Product.{with_members}
use Rattle.object_acts.proofs.Members.{pass_on, pass_done, rising_rest, rising_behind, members_sound}
use Rattle.object_acts.proofs.merging.merged_members.Goals as goal

pub loop-member-preserved : goal.loop-member-preserved
loop-member-preserved c =
    let items = c.as_slice-member-items.result.now in
    let i = c.loop-member.member-index in
    let m = c.member-item.result in
    let rest = c.loop-member.rest.now in
    let split : drop i items ≡ m ∷ drop (i + 1) items = first_of (search rules, grind (arith, common_steps)) in
    let rising : are_rising (keys_of (m ∷ drop (i + 1) items)) ≡ true = ap (λ (ms : List (Member Js)). are_rising (keys_of ms)) (sym split) ∙ c.loop-member.invariant.given in
    let clone : c.in_ok-clone.field-0 ≡ m = first_of (search rules, grind (arith, common_steps)) in
    record {
      whole = pass_on c.loop-member.all c.copied_below.new.all c.push.new.self m c.in_ok-clone.field-0 (drop (i + 1) items) rest c.in_ok-rest.rest.now (with_members items c.args.old.now)
          (ap (λ (ms : List (Member Js)). c.loop-member.all ++ with_members ms rest) (sym split) ∙ c.loop-member.invariant.whole)
          rising c.loop-member.invariant.old c.in_ok-rest.ensures.more c.in_ok-rest.ensures.rest clone c.in_ok-push.ensures.ok;
      given = rising_rest m (drop (i + 1) items) rising;
      old = ap (λ (ms : List (Member Js)). are_rising (keys_of ms)) c.in_ok-rest.ensures.rest ∙ rising_behind m.key rest c.loop-member.invariant.old;
    }

pub returns-clause-value : goal.returns-clause-value
returns-clause-value c =
    let left : drop c.loop-member.member-index c.as_slice-member-items.result.now ≡ [] = first_of (search rules, grind (arith, common_steps)) in
    pass_done c.loop-member.all c.loop-member.rest.now c.in_ok-all.all (drop c.loop-member.member-index c.as_slice-member-items.result.now) c.as_slice-member-items.result.now c.args.given.now c.args.old.now
    left c.loop-member.invariant.whole c.in_ok-all.ensures c.as_slice-member-items.ensures

pub returns-clause-sound : goal.returns-clause-sound
returns-clause-sound c =
    let left : drop c.loop-member.member-index c.as_slice-member-items.result.now ≡ [] = first_of (search rules, grind (arith, common_steps)) in
    let value = pass_done c.loop-member.all c.loop-member.rest.now c.in_ok-all.all (drop c.loop-member.member-index c.as_slice-member-items.result.now) c.as_slice-member-items.result.now c.args.given.now c.args.old.now
    left c.loop-member.invariant.whole c.in_ok-all.ensures c.as_slice-member-items.ensures in
    ap members_are_sound value ∙ members_sound c.args.given.now c.args.old.now c.requires.given c.requires.old
