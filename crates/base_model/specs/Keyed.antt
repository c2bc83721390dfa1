-- Values under texts, in rising order of the texts.
use Rattle.std.specs.Prelude.{ℕ, Bool, true, false, List, [], ◌∷◌, Option, Some, None, bytes_eq, nat_lt, if◌then◌else◌}

-- a text is the list of its bytes
abbrev pub Text : Type 0
Text = List ℕ

-- byte for byte
unfoldable pub same : Text → Text → Bool
same a b = bytes_eq a b

-- byte by byte, a front before the whole
unfoldable pub text_lt : Text → Text → Bool
text_lt [] [] = false
text_lt [] (b ∷ y) = true
text_lt (a ∷ x) [] = false
text_lt (a ∷ x) (b ∷ y) = if nat_lt a b then true else if nat_lt b a then false else text_lt x y

-- a list of keys with a value each
abbrev pub Keyed : Type 0 → Type 0
Keyed V = List (Text × V)

-- the value under a key
unfoldable pub at : {V : Type 0} → Text → Keyed V → Option V
at k [] = None
at k (e ∷ es) = if same k e.0 then Some e.1 else at k es

-- with v under k, in order, in the place of what was there
unfoldable pub put : {V : Type 0} → Text → V → Keyed V → Keyed V
put k v [] = (k, v) ∷ []
put k v (e ∷ es) =
    if same k e.0 then (k, v) ∷ es else
    if text_lt k e.0 then (k, v) ∷ e ∷ es else
    e ∷ put k v es

-- with nothing under k
unfoldable pub without : {V : Type 0} → Text → Keyed V → Keyed V
without k [] = []
without k (e ∷ es) = if same k e.0 then without k es else e ∷ without k es
