-- A request that is refused changes nothing.
use Rattle.std.proofs.Common.{◌≡◌, ℕ, Bool, true, false, List, Option, Some, None, refl}
use Rattle.base_model.specs.Keyed.{Text, at}
use Rattle.race_model.specs.Stores.{Rows, Index, Store, Write, Acted, Request, Answer, Refusal, Select, serve, pit_at, meant, create_over, block_over, clone_over, copy_of, open_over, close_over, bulk_over, bulk_in, act_all, acted_answer}
use Rattle.race_model.specs.Stores.Acted.{Now, Stuck}
use Rattle.race_model.specs.Stores.Request.{ReadPit, ClosePit, OpenPit, Get, Search, Bulk, Aliases, Ping, Block, Clone, Create}
use Rattle.race_model.specs.Stores.Reply.{Refused}

module _ {D : Type 0} (st : Store D) (why : Refusal) where
  -- where the reply is this refusal the store is as it was
  abbrev Still : Answer D → Type 0
  Still a = a.1 ≡ Refused why → a.0 ≡ st

  create_still : (o : Option (Index D)) (alias : Option Text) (n : Text) (source : Option Text) → Still (create_over o alias st n source)
  create_still (Some ix) alias n source e = refl
  create_still None (Some i) n source e = refl
  create_still None None n source e = absurd (cc)

  block_still : (o : Option (Index D)) (n : Text) → Still (block_over o st n)
  block_still None n e = refl
  block_still (Some ix) n e = absurd (cc)

  clone_still : (o from : Option (Index D)) (alias : Option Text) (source goal : Text) → Still (clone_over o alias from st source goal)
  clone_still (Some ix) from alias source goal e = refl
  clone_still None from (Some i) source goal e = refl
  clone_still None None None source goal e = refl
  clone_still None (Some ix) None source goal e = by ix.blocked e
    where
      by : (b : Bool) → Still (copy_of b ix st source goal)
      by true e = absurd (cc)
      by false e = refl

  open_still : (o : Option (Index D)) (n : Text) → Still (open_over o st n)
  open_still None n e = refl
  open_still (Some ix) n e = absurd (cc)

  close_still : (o : Option (Rows D)) (p : ℕ) → Still (close_over o st p)
  close_still None p e = refl
  close_still (Some rows) p e = absurd (cc)

  bulk_still : (o : Option (Index D)) (name index : Text) (ws : List (Write D)) → Still (bulk_over o st name index ws)
  bulk_still None name index ws e = refl
  bulk_still (Some ix) name index ws e = by ix.blocked e
    where
      by : (b : Bool) → Still (bulk_in b ix st index ws)
      by true e = refl
      by false e = absurd (cc)

  acted_still : (acted : Acted D) → Still (acted_answer st acted)
  acted_still (Now new) e = absurd (cc)
  acted_still (Stuck cause) e = refl

pub still : {D Q : Type 0} (select : Select D Q) (st : Store D) (ask : Request D Q) (why : Refusal) → (serve select st ask).1 ≡ Refused why → (serve select st ask).0 ≡ st
unfolding serve
still select st Ping why e = refl
still select st Request.State why e = refl
still select st (Create name source) why e = create_still st why (at name st.indices) (at name st.aliases) name source e
still select st (Block name) why e = block_still st why (at name st.indices) name e
still select st (Clone source goal) why e = clone_still st why (at goal st.indices) (at source st.indices) (at goal st.aliases) source goal e
still select st (OpenPit name) why e = open_still st why (at (meant st name) st.indices) name e
still select st (ReadPit p query) why e = refl
still select st (ClosePit p) why e = close_still st why (pit_at p st.pits) p e
still select st (Get name raws) why e = refl
still select st (Search name query) why e = refl
still select st (Bulk name writes) why e = bulk_still st why (at (meant st name) st.indices) name (meant st name) writes e
still select st (Aliases actions) why e = acted_still st why (act_all (Now st) actions) e
