-- The place that stands for a history.
use Rattle.std.specs.Prelude.{ℕ, Bool, true, false, Option, Some, None}

-- the first that ends, or else the last, if no history goes on from it
abbrev pub chosen : Option ℕ → Option ℕ → Bool → Option ℕ
chosen (Some first) last begun = Some first
chosen None last true = None
chosen None last false = last
