-- Space ids, and spaces with their texts.
use Rattle.std.specs.Prelude.{ℕ, Bool, not, ◌&&◌, ◌||◌, ◌==◌, nat_le, List, length, codes, Option, Some, None, if◌then◌else◌}
use Rattle.std.specs.List.{list_all}
use Rattle.std.specs.Str.{bytes_eq}
use Rattle.space_scope.specs.declared.space.Space.{Space}
use Rattle.space_scope.specs.declared.space.Space.TheVariants.{Default, Named}

-- a-z, 0-9, `_` or `-`
abbrev pub is_space_byte : ℕ → Bool
is_space_byte b = (nat_le 97 b && nat_le b 122) || (nat_le 48 b && nat_le b 57) || b == 95 || b == 45

-- 1 to 64 bytes, each one that a space id may have
abbrev pub is_space_text : List ℕ → Bool
is_space_text text = nat_le 1 (length text) && nat_le (length text) 64 && list_all is_space_byte text

-- how the default space is written
abbrev pub default_space : List ℕ
default_space = codes "default"

-- the id of a space other than the default one
abbrev pub is_space_id : List ℕ → Bool
is_space_id text = is_space_text text && not (bytes_eq text default_space)

-- the text of a space
abbrev pub space_text : Space → List ℕ
space_text Default = default_space
space_text (Named id) = id

-- the space that a text names
abbrev pub space_in : List ℕ → Option Space
space_in text = if bytes_eq text default_space then Some Default else if is_space_id text then Some (Named text) else None
