-- Cutting a text in two.
use Rattle.std.specs.Prelude.{◌==◌, ℕ, [], ◌∷◌, Option, Some, None, option_map, if◌then◌else◌}
use Rattle.ls_report.specs.Events.{Text}

-- the text before the first such byte, and the text after it
abbrev pub cut : ℕ → Text → Option (Text × Text)
cut b [] = None
cut b (c ∷ cs) = if c == b then Some ([], cs) else option_map (λ p. (c ∷ p.0, p.1)) (cut b cs)
