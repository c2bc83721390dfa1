use Rattle.std.proofs.Common.{◌≡◌, ℕ, ◌+◌, ◌*◌, ◌^◌, List, drop, ◌∙◌, sym, ap, arith}
use Rattle.std.proofs.lemmas.List.{drop-drop}
use Rattle.doc_table.specs.Marks.{mark_of}
use Rattle.doc_table.proofs.Marks.{each_byte, mark_joined}
use Rattle.doc_table.proofs.mark.Mark.of.Goals as goal

-- two words as the number of 16 bytes
two_words : (r : List ℕ) (n a b : ℕ) → n ≡ a * 256 ^ 8 + b → a ≡ mark_of 8 r → b ≡ mark_of 8 (drop 8 r) → n ≡ mark_of 16 r
two_words r n a b e f g = let j = mark_joined 8 8 16 r (omega arith) in omega arith

pub returns : goal.returns
returns c =
    let r : List ℕ = c.args.raw.now in
    let v = c.as_bytes-bytes.ensures.value in
    let a : c.word_at.result ≡ mark_of 8 r = c.word_at.ensures ∙ ap (λ (r : List ℕ). mark_of 8 r) v in
    let b : c.word_at-2.result ≡ mark_of 8 (drop 8 r) = c.word_at-2.ensures ∙ ap (λ (r : List ℕ). mark_of 8 (drop 8 r)) v in
    let d : c.word_at-3.result ≡ mark_of 8 (drop 16 r) = c.word_at-3.ensures ∙ ap (λ (r : List ℕ). mark_of 8 (drop 16 r)) v in
    let e : c.word_at-4.result ≡ mark_of 8 (drop 8 (drop 16 r)) = c.word_at-4.ensures ∙ ap (λ (r : List ℕ). mark_of 8 (drop 24 r)) v ∙ ap (mark_of 8) (sym (drop-drop 8 16 r)) in
    record {
      first = two_words r c.joined-first.result c.word_at.result c.word_at-2.result c.joined-first.ensures a b;
      second = two_words (drop 16 r) c.joined-second.result c.word_at-3.result c.word_at-4.result c.joined-second.ensures d e;
      bytes = each_byte r (λ i. let f = c.type_inv.raw i in omega arith);
    }
