-- The program and the schedule of a report.
use Rattle.std.proofs.Common.{◌≡◌, ◌∙◌, ◌∷◌, ◌++◌, Bor, ℕ, List, Option, Some, None, true, codes, ap, sym, append_assoc}
use Rattle.std.proofs.Common.{[]}
use Rattle.std.specs.Prelude.{MatchOption}
use Rattle.std.specs.Str.Pattern.{FindsTextPrefix, StripsPrefix}
use Rattle.ls_report.specs.Cut.{cut}
use Rattle.ls_report.specs.Events.{Text}
use Rattle.ls_report.proofs.CutLemmas.{cut_at, cut_parts, first_of_two, second_of_two, two, without}
use Rattle.ls_find_reports.specs.Reports.{lacks}

-- what `strip_prefix` says of a text
pub strip_text : (n s : Text) (r : Option (Bor (List ℕ))) →
    MatchOption r (FindsTextPrefix n s None) (λ x. StripsPrefix (FindsTextPrefix n) s x.now) →
    MatchOption r ((rest : Text) → s ≡ n ++ rest → ⊥) (λ x. s ≡ n ++ x.now)
strip_text n s None h = h
strip_text n s (Some x) h = h.1.1 ∙ ap (λ t. n ++ t) (sym h.2)

tail_is : {x y : ℕ} {xs ys : Text} → x ∷ xs ≡ y ∷ ys → xs ≡ ys
tail_is e = cc

-- what stands behind one text
pub behind_one : (xs ys zs : Text) → xs ++ ys ≡ xs ++ zs → ys ≡ zs
behind_one [] ys zs e = e
behind_one (x ∷ xs) ys zs e = behind_one xs ys zs (tail_is e)

pub body_is : (text program behind lines schedule rest : Text) → two program behind ≡ cut 37 text →
    behind ≡ codes "%\n" ++ lines → two schedule rest ≡ cut 10 lines →
    text ≡ program ++ (codes "%%\n" ++ (schedule ++ 10 ∷ rest))
body_is text program behind lines schedule rest first e second =
    cut_parts 37 text program behind first ∙
    ap (λ t. program ++ 37 ∷ t) (e ∙ ap (λ t. codes "%\n" ++ t) (cut_parts 10 lines schedule rest second))

pub program_cut : (text program schedule rest : Text) → lacks 37 program ≡ true →
    text ≡ program ++ (codes "%%\n" ++ (schedule ++ 10 ∷ rest)) →
    cut 37 text ≡ two program (codes "%\n" ++ (schedule ++ 10 ∷ rest))
program_cut text program schedule rest l e =
    ap (cut 37) e ∙ cut_at 37 program (codes "%\n" ++ (schedule ++ 10 ∷ rest)) (without 37 program l)

pub line_cut : (schedule rest : Text) → lacks 10 schedule ≡ true → cut 10 (schedule ++ 10 ∷ rest) ≡ two schedule rest
line_cut schedule rest l = cut_at 10 schedule rest (without 10 schedule l)

-- what stands behind the program, and behind the line `%%`
pub behind_is : (text program behind program' schedule rest : Text) → two program behind ≡ cut 37 text →
    lacks 37 program' ≡ true → text ≡ program' ++ (codes "%%\n" ++ (schedule ++ 10 ∷ rest)) →
    (program ≡ program') × (behind ≡ codes "%\n" ++ (schedule ++ 10 ∷ rest))
behind_is text program behind program' schedule rest c l e =
    let both = c ∙ program_cut text program' schedule rest l e in (
      first_of_two program behind program' (codes "%\n" ++ (schedule ++ 10 ∷ rest)) both,
      second_of_two program behind program' (codes "%\n" ++ (schedule ++ 10 ∷ rest)) both,
    )

-- with the line feed of the schedule
pub with_feed : (program schedule after : Text) →
    program ++ (codes "%%\n" ++ (schedule ++ 10 ∷ after)) ≡ program ++
    (codes "%%\n" ++ ((schedule ++ 10 ∷ []) ++ after))
with_feed program schedule after =
    ap (λ t. program ++ (codes "%%\n" ++ t)) (sym (append_assoc schedule (10 ∷ []) after))
