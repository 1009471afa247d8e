-- No text has the status 2.
use Rattle.std.specs.Prelude.{◌≡◌, ◌&&◌, ℕ, Bool, true, false, codes, if◌then◌else◌}
use Rattle.std.proofs.Common.{arith}
use Rattle.ls_report.specs.Events.{Text}
use Rattle.ls_find_reports.specs.Statuses.{begins, behind_line, status_of, warns}

abbrev one_of : Bool → Bool → Bool → ℕ
one_of a b c = if a then 3 else (if b then 4 else (if c then 5 else 0))

none_is_two : (a b c : Bool) → one_of a b c ≡ 2 → ⊥
none_is_two true b c e = omega (arith, e)
none_is_two false true c e = omega (arith, e)
none_is_two false false true e = omega (arith, e)
none_is_two false false false e = omega (arith, e)

pub not_two : (text : Text) → status_of text ≡ 2 → ⊥
not_two text = none_is_two (begins text (codes "// number ")) (begins text (codes "// none in what was explored"))
    (begins text (codes "// none\n") && warns (behind_line (behind_line text)))
