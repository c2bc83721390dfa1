use Rattle.std.proofs.Common.{◌≡◌, List, Some, true, false, sym, ap, ◌∙◌, rules, arith, is_some}
use Rattle.std.specs.Str.{bytes_eq}
use Rattle.std.proofs.lemmas.Grind.{common_steps}
use Rattle.so_js.specs.declared.js.Js.{Js}
use Rattle.so_js.specs.declared.js.Js.TheVariants.{Object}
use Rattle.so_js.specs.declared.js.Member.{Member}
use Rattle.transform_ops.specs.Attributes.{value_at, without, named, placed, with_value}
use Rattle.transform_ops.specs.Effects.{room_in}
use Rattle.transform_ops.proofs.AttributeLaws.{value_at-without}
use Rattle.transform_ops.proofs.EffectLaws.{some_of, moved_is}
use Rattle.transform_ops.proofs.effects.move_into.Goals as goal

pub returns : goal.returns
returns c =
    let key = c.args.key.now in
    let into = c.args.into.now in
    let ms = c.args.members in
    let apart : bytes_eq key into ≡ false = first_of (search rules, grind (arith, common_steps)) in
    let there : is_some (room_in (value_at into ms)) ≡ true = first_of (search rules, grind (arith, common_steps)) in
    let free = some_of (room_in (value_at into ms)) there in
    let is : value_at key ms ≡ Some c.in-Some.value = sym c.in-Some.ensures.value in
    let found : c.taken-2.result ≡ value_at into ms = c.taken-2.ensures.value ∙ ap (value_at into) c.taken.ensures.rest ∙ value_at-without key into ms apart in
    let room : c.room_of-room.result ≡ free.0 = c.room_of-room.ensures free.0 (ap room_in found ∙ free.1) in
    let value = c.in-Some.value in
    let inner : c.place.new.members ≡ with_value key value free.0 =
    c.in_ok-place.ensures ∙ ap (placed (named key value)) (c.taken-replaced.ensures.rest ∙ ap (without key) room) in
    c.in_ok-place-2.ensures
    ∙ ap (λ (room : List (Member Js)). placed (named into (Object room)) c.taken-2.new.members) inner
    ∙ ap (placed (named into (Object (with_value key value free.0)))) (c.taken-2.ensures.rest ∙ ap (without into) c.taken.ensures.rest)
    ∙ sym (moved_is key into ms value free.0 apart is free.1)
