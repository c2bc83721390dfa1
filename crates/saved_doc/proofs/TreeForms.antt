-- What a tree of a written form is read as, one level down.
use Rattle.std.proofs.Common.{◌≡◌, ℕ, List, Ok, true, rules}
use Rattle.so_js.specs.Tree.{members_in}
use Rattle.so_js.specs.declared.js.Js.{Js, the_lemmas}
use Rattle.so_js.specs.declared.js.Js.TheVariants.{Str, Items, Object}
use Rattle.so_js.specs.declared.js.Member.{Member}
use Rattle.saved_doc.specs.Reading.{text_in, items_in, object_in}
use Rattle.saved_doc.specs.Trees.{is_object}

pub members_in-Object : (ms : List (Member Js)) → members_in (Object ms) ≡ ms
members_in-Object ms = search (rules, the_lemmas)

pub is_object-Object : (ms : List (Member Js)) → is_object (Object ms) ≡ true
is_object-Object ms = search (rules, the_lemmas)

pub object_in-Object : (ms : List (Member Js)) → object_in (Object ms) ≡ Ok ms
object_in-Object ms = search (rules, the_lemmas)

pub items_in-Items : (items : List Js) → items_in (Items items) ≡ Ok items
items_in-Items items = search (rules, the_lemmas)

pub text_in-Str : (text : List ℕ) → text_in (Str text) ≡ Ok text
text_in-Str text = search (rules, the_lemmas)
