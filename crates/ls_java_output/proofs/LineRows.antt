-- The lines of the words of small texts.
use Rattle.std.proofs.Common.{ℕ, ◌+◌, [], ◌∷◌, Bool, true, false, codes, refl}
use Rattle.ls_java_output.specs.Lines.{AreOnLines}
use Rattle.ls_java_output.specs.declared.place.Place.{Place}

abbrev word : ℕ → ℕ → ℕ → Bool → Place
word start end at own =
    record { start = start; end = end; token = 0; at = at; until = at + 1; own = own; goes = own }

-- of two lines, with a word more in the first
kept : AreOnLines (codes "a\nb") (codes "a x\nb") 0 (word 0 1 0 true ∷ word 2 3 0 false ∷ word 4 5 2 true ∷ [])
kept = (refl, (refl, (refl, tt)))

-- a word of the first line after one of the second stays on the second
moved : AreOnLines (codes "a\nb") (codes "\nb a") 0 (word 1 2 2 true ∷ word 3 4 0 true ∷ [])
moved = (refl, (refl, tt))
