use Rattle.std.proofs.Common.{◌≡◌, ◌+◌, ◌≤◌, List, ◌∷◌, ◌++◌, map, length, ap, sym, ◌∙◌, arith, rules}
use Rattle.std.specs.Vec.Iter.{into_iter_items}
use Rattle.race_model.specs.Stores.{write_all, items_of}
use Rattle.race_model.specs.Stores as stores
use Rattle.doc_table.specs.declared.writes.Item.{Item}
use Rattle.doc_table.specs.declared.writes.Write.{Write}
use Rattle.doc_table.specs.Tables.{item_of, write_of}
use Rattle.index_store.proofs.Writes.{write_step, items_step, next_step, item_pushed}
use Rattle.index_store.proofs.writing.written.Goals as goal

pub loop-write-preserved : goal.loop-write-preserved
loop-write-preserved c =
    let more = into_iter_items c.next.new.self in
    let rest = map write_of more in
    let copy = c.loop-write.copy in
    let new = c.apply.new.self in
    let w = write_of c.in-Some.write in
    let i = item_of c.in_ok-apply.field-0 in
    let left : into_iter_items c.loop-write.write-iterator ≡ c.in-Some.write ∷ more = search rules in
    let step = c.in_ok-apply.ensures.ok in
    let fewer : new.next ≤ copy.next + 1 = next_step copy new w i step in
    let long : length (into_iter_items c.loop-write.write-iterator) ≡ length more + 1 = omega (arith, ap length left) in
    let room = c.loop-write.invariant.2 in (
      write_step copy new w i rest step ∙ ap (λ (ws : List Write). write_all copy (map write_of ws)) (sym left) ∙ c.loop-write.invariant.0,
      ap (λ (items : List Item). map item_of items ++ items_of new rest) c.in_ok-push.ensures.ok ∙ item_pushed c.loop-write.items c.in_ok-apply.field-0 (items_of new rest)
          ∙ ap (λ (is : List stores.Item). map item_of c.loop-write.items ++ is) (items_step copy new w i rest step)
          ∙ ap (λ (ws : List Write). map item_of c.loop-write.items ++ items_of copy (map write_of ws)) (sym left) ∙ c.loop-write.invariant.1,
      omega arith,
    )
