-- Lines up to one that is empty.
use Rattle.std.specs.Prelude.{◌==◌, ◌&&◌, ◌+◌, ℕ, suc, Bool, true, [], ◌∷◌, take, drop, Option, Some, None, option_map}
use Rattle.std.specs.Prelude.{if◌then◌else◌}
use Rattle.ls_report.specs.Events.{Text}

-- how many bytes stand before the first line that is empty; `starts` says whether a line starts at the first of the
-- bytes
abbrev pub block_len : Bool → Text → Option ℕ
block_len starts [] = None
block_len starts (b ∷ bs) = if starts && (b == 10) then Some 0 else option_map suc (block_len (b == 10) bs)

-- what stands before a line feed at this place, and what after it
abbrev pub parts_at : Text → ℕ → Text × Text
parts_at text n = (take n text, drop (n + 1) text)

-- what stands before that line, and what after it
abbrev pub block_parts : Text → Option (Text × Text)
block_parts text = option_map (parts_at text) (block_len true text)
