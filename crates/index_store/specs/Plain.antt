-- Queries that ask no more than that rows come after a raw id.
use Rattle.std.specs.Prelude.{ℕ, false, [], Option, None}
use Rattle.base_model.specs.Keyed.{Text}
use Rattle.query_model.specs.Queries.{Query}
use Rattle.query_model.specs.declared.parts.Sort.TheVariants.{Raw}

-- the rows after a raw id, if one is given, in rising order, at most so many
abbrev pub rows_from : Option Text → Option ℕ → Query Text
rows_from after limit = record {
  types = None;
  not_types = [];
  space = None;
  reference = None;
  origin = None;
  outdated = [];
  after = after;
  sort = Raw;
  descending = false;
  skip = 0;
  limit = limit;
  filter = None;
}
