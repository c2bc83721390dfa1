-- Worked calls of one thread, computed.
use Rattle.std.proofs.Common.{◌≡◌, ℕ, List, [], ◌∷◌, true, false, Option, Some, None, refl, drop}
use lib.Chars.{codes}
use Rattle.base_model.specs.Keyed.{Text, Keyed, same, text_lt, at, put, without}
use Rattle.race_model.specs.Stores.{Table, empty_table}
use Rattle.space_scope.specs.declared.kind.Kind.TheVariants.{Single, Multiple, MultipleIsolated}
use Rattle.document_model.specs.Documents.{ver_lt, Doc, lists, after}
use Rattle.document_model.specs.Registries.{Registry, known, greatest}
use Rattle.query_model.specs.declared.parts.Sort.{Sort}
use Rattle.query_model.specs.Queries.{is_outdated, chosen}
use Rattle.call_model.specs.declared.refuse.Refuse.{Refuse}
use Rattle.call_model.specs.declared.refuse.MatchKind.{MatchKind}
use Rattle.call_model.specs.Calls.{Call, Answer, One, Shown}
use Rattle.call_model.specs.Calls.Answer.{Each, Deleted, Page, Spaces, Resolved, Refused}
use Rattle.call_model.specs.Calls.Call.{BulkCreating, BulkGetting, Resolving, Finding}
use Rattle.call_model.specs.Acts.{is_space, own_words, is_seen, judge, act_step}
use Rattle.call_model.specs.Steps.{turns, each_turn, all_got, alias_target, resolve, work_of, call_step}
use Rattle.call_rows.proofs.Example.{version, words, registry, target, default_space, new_object, create, update, delete, share, get, applied, object, raws}

abbrev dashboard : Text
dashboard = codes "dashboard"

abbrev dashboards : Registry ℕ
dashboards = registry 12 dashboard Single

abbrev in_default : Option (List Text)
in_default = Some (default_space ∷ [])

-- an update needs the version that was seen
update_needs_the_seen_version : applied dashboards empty_table (
    create default_space dashboard (codes "d1") []
    ∷ create default_space dashboard (codes "d2") ((codes "n", codes "1") ∷ (codes "t", codes "x") ∷ [])
    ∷ update dashboard (codes "d2") ((codes "n", codes "2") ∷ []) (Some (codes "WzEsMV0="))
    ∷ update dashboard (codes "d2") ((codes "n", codes "2") ∷ []) (Some (codes "WzEsMV0="))
    ∷ update dashboard (codes "d2") ((codes "n", codes "2") ∷ []) (Some (codes "x")) ∷ [])
    ≡ object 12 dashboard (codes "d1") [] 0 in_default
    ∷ object 12 dashboard (codes "d2") ((codes "n", codes "1") ∷ (codes "t", codes "x") ∷ []) 1 in_default
    ∷ object 12 dashboard (codes "d2") ((codes "n", codes "2") ∷ (codes "t", codes "x") ∷ []) 2 in_default
    ∷ Refused Refuse.Conflict ∷ Refused Refuse.BadToken ∷ []
unfolding same text_lt at put without ver_lt lists after known greatest is_outdated chosen is_space own_words is_seen judge act_step turns each_turn all_got alias_target resolve work_of call_step
update_needs_the_seen_version = refl

-- two objects with one raw id meet as a conflict
two_triples_with_one_raw_id_conflict : applied dashboards empty_table (
    create dashboard dashboard (codes "x") [] ∷ create default_space dashboard (codes "dashboard:x") [] ∷ get dashboard (codes "dashboard:x") ∷ [])
    ≡ object 12 dashboard (codes "x") [] 0 (Some (dashboard ∷ [])) ∷ Refused Refuse.Conflict ∷ Refused Refuse.NotFound ∷ []
unfolding same text_lt at put without ver_lt lists after known greatest is_outdated chosen is_space own_words is_seen judge act_step turns each_turn all_got alias_target resolve work_of call_step
two_triples_with_one_raw_id_conflict = refl

abbrev tag : Text
tag = codes "tag"

abbrev tags : Registry ℕ
tags = registry 12 tag Multiple

abbrev rest_of : List (Answer (Keyed Text)) → List (Answer (Keyed Text))
rest_of [] = []
rest_of (a ∷ rest) = rest

-- an object in two spaces is deleted by force alone
share_then_forced_delete : rest_of (applied tags empty_table (create default_space tag (codes "t1") [] ∷ share tag (codes "t1") (codes "a" ∷ []) [] ∷ delete tag (codes "t1") false ∷ delete tag (codes "t1") true ∷ []))
    ≡ Spaces (default_space ∷ codes "a" ∷ []) ∷ Refused Refuse.NeedsForce ∷ Deleted ∷ []
unfolding same text_lt at put without ver_lt lists after known greatest is_outdated chosen is_space own_words is_seen judge act_step turns each_turn all_got alias_target resolve work_of call_step
share_then_forced_delete = refl

-- an object that is shared with no space any more is deleted, and a type of another kind isn't shared
share_with_nobody : applied tags empty_table (create default_space tag (codes "t1") [] ∷ share tag (codes "t1") [] (default_space ∷ []) ∷ get tag (codes "t1") ∷ [])
    ≡ object 12 tag (codes "t1") [] 0 in_default ∷ Spaces [] ∷ Refused Refuse.NotFound ∷ []
unfolding same text_lt at put without ver_lt lists after known greatest is_outdated chosen is_space own_words is_seen judge act_step turns each_turn all_got alias_target resolve work_of call_step
share_with_nobody = refl

isolated_is_not_shared : rest_of (applied (registry 12 tag MultipleIsolated) empty_table (create default_space tag (codes "t1") [] ∷ share tag (codes "t1") (codes "a" ∷ []) [] ∷ [])) ≡ Refused Refuse.UnsupportedType ∷ []
unfolding same text_lt at put without ver_lt lists after known greatest is_outdated chosen is_space own_words is_seen judge act_step turns each_turn all_got alias_target resolve work_of call_step
isolated_is_not_shared = refl

-- a bulk of reads after an update, and a read after a delete
bulk_get_after_update_and_delete : applied tags empty_table (
    create default_space tag (codes "t1") [] ∷ update tag (codes "t1") ((codes "x", codes "1") ∷ []) (Some (codes "WzAsMV0="))
    ∷ BulkGetting default_space (target tag (codes "t1") ∷ target tag (codes "t2") ∷ []) ∷ delete tag (codes "t1") false ∷ get tag (codes "t1") ∷ [])
    ≡ object 12 tag (codes "t1") [] 0 in_default
    ∷ object 12 tag (codes "t1") ((codes "x", codes "1") ∷ []) 1 in_default
    ∷ Each (One.Object (record { type_name = tag; id = codes "t1"; attributes = (codes "x", codes "1") ∷ []; references = []; number = 1; stamp = None; core = Some (version 12); origin = None; updated_at = None; namespaces = in_default }) ∷ One.Refused Refuse.NotFound ∷ [])
    ∷ Deleted ∷ Refused Refuse.NotFound ∷ []
unfolding same text_lt at put without ver_lt lists after known greatest is_outdated chosen is_space own_words is_seen judge act_step turns each_turn all_got alias_target resolve work_of call_step
bulk_get_after_update_and_delete = refl

abbrev find : ℕ → ℕ → Call (Keyed Text)
find page per_page = Finding default_space (record { types = dashboard ∷ []; page = page; per_page = per_page; sort = Sort.Raw; descending = false; reference = None; origin = None; filter = None })

-- the pages' ids, their numbers and the total
abbrev pages : List (Answer (Keyed Text)) → List (Option (List (Text × ℕ) × List ℕ))
pages [] = []
pages (Page objects page per_page total ∷ rest) = Some (shown_of objects, page ∷ per_page ∷ total ∷ []) ∷ pages rest
  where
    shown_of : List (Shown (Keyed Text)) → List (Text × ℕ)
    shown_of [] = []
    shown_of (s ∷ ss) = (s.id, s.number) ∷ shown_of ss
pages (a ∷ rest) = None ∷ pages rest

find_second_page : pages (drop 3 (applied dashboards empty_table (
    create default_space dashboard (codes "d1") [] ∷ create default_space dashboard (codes "d2") [] ∷ create default_space dashboard (codes "d3") [] ∷ find 2 2 ∷ find 3 2 ∷ find 1 10001 ∷ find 0 2 ∷ [])))
    ≡ Some ((codes "d3", 2) ∷ [], 2 ∷ 2 ∷ 3 ∷ []) ∷ Some ([], 3 ∷ 2 ∷ 3 ∷ []) ∷ None ∷ None ∷ []
unfolding same text_lt at put without ver_lt lists after known greatest is_outdated chosen is_space own_words is_seen judge act_step turns each_turn all_got alias_target resolve work_of call_step
find_second_page = refl

-- an object of another space isn't found
find_shows_its_space_alone : pages (drop 2 (applied dashboards empty_table (
    create default_space dashboard (codes "d1") [] ∷ create (codes "a") dashboard (codes "d2") [] ∷ find 1 20 ∷ [])))
    ≡ Some ((codes "d1", 0) ∷ [], 1 ∷ 20 ∷ 1 ∷ []) ∷ []
unfolding same text_lt at put without ver_lt lists after known greatest is_outdated chosen is_space own_words is_seen judge act_step turns each_turn all_got alias_target resolve work_of call_step
find_shows_its_space_alone = refl

abbrev bad_page : Answer (Keyed Text)
bad_page = Refused Refuse.BadPage

page_of_many_is_bad : applied dashboards empty_table (find 1 10001 ∷ find 0 2 ∷ []) ≡ bad_page ∷ bad_page ∷ []
unfolding same text_lt at put without ver_lt lists after known greatest is_outdated chosen is_space own_words is_seen judge act_step turns each_turn all_got alias_target resolve work_of call_step
page_of_many_is_bad = refl

-- an isolated type, an object that was moved to n1, and its alias document
abbrev isolated : Registry ℕ
isolated = registry 12 dashboard MultipleIsolated

abbrev moved_rows : Table (Doc (Keyed Text))
moved_rows = record {
  rows = (codes "dashboard:n1", record { seq = 0; doc = record { type_name = dashboard; attributes = []; references = []; namespace = None; namespaces = Some (codes "a" ∷ []); stamp = None; core = None; updated_at = None; origin = None } })
      ∷ (codes "legacy-url-alias:a:dashboard:d1", record { seq = 1; doc = record { type_name = codes "legacy-url-alias"; attributes = (codes "targetId", codes "n1") ∷ (codes "targetType", dashboard) ∷ []; references = []; namespace = None; namespaces = None; stamp = None; core = None; updated_at = None; origin = None } }) ∷ [];
  next = 2;
}

abbrev resolve_in : Text → Text → Call (Keyed Text)
resolve_in space id = Resolving space (target dashboard id)

-- the id that was found, how, and the alias's target
abbrev matches : List (Answer (Keyed Text)) → List (Option (Text × MatchKind × Option Text))
matches [] = []
matches (Resolved o kind alias ∷ rest) = Some (o.id, kind, alias) ∷ matches rest
matches (a ∷ rest) = None ∷ matches rest

resolve_through_an_alias : matches (applied isolated moved_rows (resolve_in (codes "a") (codes "d1") ∷ create (codes "a") dashboard (codes "d1") [] ∷ resolve_in (codes "a") (codes "d1") ∷ resolve_in (codes "a") (codes "n1") ∷ resolve_in (codes "b") (codes "n1") ∷ []))
    ≡ Some (codes "n1", MatchKind.AliasMatch, Some (codes "n1")) ∷ None ∷ Some (codes "d1", MatchKind.Conflict, Some (codes "n1")) ∷ Some (codes "n1", MatchKind.ExactMatch, None) ∷ None ∷ []
unfolding same text_lt at put without ver_lt lists after known greatest is_outdated chosen is_space own_words is_seen judge act_step turns each_turn all_got alias_target resolve work_of call_step
resolve_through_an_alias = refl

-- on a blocked table
abbrev shut : Call (Keyed Text) → Answer (Keyed Text)
shut call = (call_step words dashboards true empty_table call).1

repeated_is_conflict_on_a_blocked_table : shut (BulkCreating default_space (new_object dashboard (codes "x") [] ∷ new_object dashboard (codes "x") [] ∷ new_object dashboard [] [] ∷ []) false None)
    ≡ Each (One.Refused Refuse.WriteBlocked ∷ One.Refused Refuse.Conflict ∷ One.Refused Refuse.BadId ∷ [])
unfolding same text_lt at put without ver_lt lists after known greatest is_outdated chosen is_space own_words is_seen judge act_step turns each_turn all_got alias_target resolve work_of call_step
repeated_is_conflict_on_a_blocked_table = refl

missing_is_not_found_on_a_blocked_table : shut (update dashboard (codes "x") [] None) ≡ Refused Refuse.NotFound
unfolding same text_lt at put without ver_lt lists after known greatest is_outdated chosen is_space own_words is_seen judge act_step turns each_turn all_got alias_target resolve work_of call_step
missing_is_not_found_on_a_blocked_table = refl

-- the order of refusals by a call's own words
words_are_judged_in_order : applied dashboards empty_table (
    create (codes "A") (codes "widget") [] [] ∷ create default_space (codes "widget") [] [] ∷ create default_space (codes "legacy-url-alias") (codes "x") [] ∷ create default_space dashboard [] [] ∷ [])
    ≡ Refused Refuse.BadSpace ∷ Refused Refuse.UnsupportedType ∷ Refused Refuse.UnsupportedType ∷ Refused Refuse.BadId ∷ []
unfolding same text_lt at put without ver_lt lists after known greatest is_outdated chosen is_space own_words is_seen judge act_step turns each_turn all_got alias_target resolve work_of call_step
words_are_judged_in_order = refl

-- a client can make a row at the raw id of an alias document, though never over one
abbrev raws_left : Option (Table (Doc (Keyed Text))) → List Text
raws_left None = []
raws_left (Some t) = raws t.rows

alias_raw_id_taken : raws_left (call_step words (registry 12 (codes "a") Single) false empty_table (create (codes "legacy-url-alias") (codes "a") (codes "dashboard:d1") [])).0 ≡ codes "legacy-url-alias:a:dashboard:d1" ∷ []
unfolding same text_lt at put without ver_lt lists after known greatest is_outdated chosen is_space own_words is_seen judge act_step turns each_turn all_got alias_target resolve work_of call_step
alias_raw_id_taken = refl
