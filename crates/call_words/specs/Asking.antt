-- A find as the query that it stands for, or its refusal.
use Rattle.std.specs.Prelude.{Option, Some, None, Result, Ok, Err}
use Rattle.base_model.specs.Keyed.{Text}
use Rattle.query_model.specs.Queries.{Query}
use Rattle.call_model.specs.declared.refuse.Refuse.{Refuse}
use Rattle.doc_query.specs.Mapped.{query_of}
use Rattle.call_words.specs.declared.finding.Asked.{Asked}
use Rattle.call_words.specs.declared.finding.Asked.TheVariants as asked

-- the refusal by the words comes before the query
abbrev pub asked_over : Option Refuse → Query Text → Result (Query Text) Refuse
asked_over None query = Ok query
asked_over (Some refusal) query = Err refusal

-- what the code answers
abbrev pub search_in : Asked → Result (Query Text) Refuse
search_in (asked.Query query) = Ok (query_of query)
search_in (asked.Refused refusal) = Err refusal
