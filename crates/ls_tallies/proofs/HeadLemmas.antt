-- The words of the line in front of a history.
use Rattle.std.proofs.Common.{◌≡◌, ◌<◌, ◌^◌, ℕ, Option, Some, ◌∷◌, ◌++◌, codes, refl, ap, arith}
use Rattle.std.specs.Prelude.{option_map, option_and_then}
use Rattle.std.specs.Fmt.{decimal}
use Rattle.ls_report.specs.Cut.{cut}
use Rattle.ls_report.specs.Events.{Text}
use Rattle.ls_report.proofs.CutLemmas.{cut_at, lacks-decimal, without}
use Rattle.ls_tallies.specs.Heads.{fields_of, head_line}

-- the words before a number
after_word : (count : Text) → option_map (λ (p : Text × Text). p.1) (cut 32 (codes "count " ++ count)) ≡ Some count
after_word count = refl

seed_cut : (s : ℕ) (rest : Text) → s < 2 ^ 64 → cut 32 (decimal s ++ 32 ∷ rest) ≡ Some (decimal s, rest)
seed_cut s rest fits = cut_at 32 (decimal s) rest (without 32 (decimal s)
    (lacks-decimal 32 s (λ m small same. omega arith) fits))

pub fields_back : (s n : ℕ) → s < 2 ^ 64 → fields_of (head_line s n) ≡ Some (decimal s, decimal n)
fields_back s n fits =
    ap (λ (o : Option (Text × Text)). option_and_then (λ q. option_map (λ r. (q.0, r.1)) (cut 32 q.1)) o)
    (seed_cut s (codes "count " ++ decimal n) fits)
