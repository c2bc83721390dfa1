use Rattle.std.proofs.Common.{◌≡◌, [], drop, Some, sym, ◌∙◌, subst, arith}
use Rattle.std.proofs.lemmas.List.{drop_all}
use Rattle.std.proofs.lemmas.Result.{on_ok_weaker}
use Rattle.serde.specs.Event.{Logs, seq_begins, map_begins}
use Rattle.serde_json.specs.Events.{SendsItems, SendsMembers}
use Rattle.so_js.specs.Printing.{data_items, data_members}
use Rattle.so_js.proofs.TreeLaws.{items_len-data_items, members_len-data_members}
use Rattle.so_js.proofs.printing.+send.Goals as goal

pub send_items-returns : goal.send_items-returns
send_items-returns g t c =
    let xs = c.as_slice-item-items.result.now in
    let first = g.S.Serializer.written c.begin_seq.new.self in
    let end = g.S.Serializer.written c.end_seq.new.self in
    let len = c.len.ensures ∙ sym (items_len-data_items c.args.items.now) in
    let begun = subst (λ n. Logs (g.S.Serializer.written c.args.out.now) first (seq_begins (Some n))) len c.in_ok-begin_seq.ensures in
    let none : drop c.loop-item.item-index xs ≡ [] = drop_all c.loop-item.item-index xs (omega (arith, c.loop-item-test.false)) in
    on_ok_weaker c.end_seq.result (λ e. (
      first,
      begun,
      subst (λ ys. SendsItems (data_items ys) first end) c.as_slice-item-items.ensures
          (c.loop-item.invariant end (subst (λ ys. SendsItems (data_items ys) (g.S.Serializer.written c.loop-item.out) end) (sym none) e)),
    )) c.end_seq.ensures

pub send_members-returns : goal.send_members-returns
send_members-returns g t c =
    let xs = c.as_slice-member-items.result.now in
    let first = g.S.Serializer.written c.begin_map.new.self in
    let end = g.S.Serializer.written c.end_map.new.self in
    let len = c.len.ensures ∙ sym (members_len-data_members c.args.members.now) in
    let begun = subst (λ n. Logs (g.S.Serializer.written c.args.out.now) first (map_begins (Some n))) len c.in_ok-begin_map.ensures in
    let none : drop c.loop-member.member-index xs ≡ [] = drop_all c.loop-member.member-index xs (omega (arith, c.loop-member-test.false)) in
    on_ok_weaker c.end_map.result (λ e. (
      first,
      begun,
      subst (λ ys. SendsMembers (data_members ys) first end) c.as_slice-member-items.ensures
          (c.loop-member.invariant end (subst (λ ys. SendsMembers (data_members ys) (g.S.Serializer.written c.loop-member.out) end) (sym none) e)),
    )) c.end_map.ensures
