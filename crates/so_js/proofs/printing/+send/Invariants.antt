use Rattle.std.proofs.Common.{drop}
use Rattle.serde.specs.Event.{Log}
use Rattle.serde_json.specs.Events.{SendsItems, SendsMembers}
use Rattle.so_js.specs.Printing.{data_items, data_members}
use Rattle.so_js.proofs.printing.+send.Given as goal

-- whatever ends it well from here ends it well from the start
abbrev pub invariant-send_items-loop-item : goal.invariant-send_items-loop-item
invariant-send_items-loop-item g l =
    (end : Log) → SendsItems (data_items (drop l.item-index l.item-items)) (g.S.Serializer.written l.out) end → SendsItems (data_items l.item-items) (g.S.Serializer.written l.initial.out) end

abbrev pub invariant-send_members-loop-member : goal.invariant-send_members-loop-member
invariant-send_members-loop-member g l =
    (end : Log) → SendsMembers (data_members (drop l.member-index l.member-items)) (g.S.Serializer.written l.out) end → SendsMembers (data_members l.member-items) (g.S.Serializer.written l.initial.out) end
