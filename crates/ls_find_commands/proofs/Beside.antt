-- What is said beside `none`, and how what a search for data races finds is told.
use Rattle.std.proofs.Common.{◌≡◌, ◌∙◌, ℕ, Bool, true, false, List, [], Option, Some, None, Ok, ap, append-nil}
use Rattle.std.proofs.Common.{refl, subst, sym}
use Rattle.std.specs.Prelude.{◌↔◌, IfSome}
use Rattle.ls_family_search.specs.declared.judging.Halted.{Halted}
use Rattle.ls_family_search.specs.declared.judging.Passed.{Passed}
use Rattle.ls_family_search.specs.declared.searching.Finding.{Finding}
use Rattle.ls_find.specs.declared.explorer.Why.{Why}
use Rattle.ls_find_races.specs.declared.explorer.RaceWhy.{RaceWhy}
use Rattle.ls_find_reports.specs.Printing.{figures_of, none_text}
use Rattle.ls_find_commands.specs.Found.{AreAllNumbers, AreTold, IsAskedBeside, answer_beside, halted_answer}
use Rattle.ls_find_commands.specs.Racing.{race_halted_answer}
use Rattle.ls_find_commands.specs.declared.command.Range.{Range}

-- with nothing beside it an answer is what it is
pub nothing_beside : (before to count : ℕ) (ps : List Passed) (halted : Option (Halted Why)) →
    answer_beside before to count ps halted [] ≡ halted_answer before to count ps halted
nothing_beside before to count ps None = ap Ok (append-nil (none_text (figures_of before to count ps)))
nothing_beside before to count ps (Some h) = refl

same_if : {X Y : Type 0} (P : Type 0) (o : Option X) (p : Option Y) → (o ≡ None → p ≡ None) → IfSome o (λ x. P) →
    IfSome p (λ y. P)
same_if P None p none h = subst (λ q. IfSome q (λ y. P)) (sym (none refl)) tt
same_if P (Some x) None none h = tt
same_if P (Some x) (Some y) none h = h

-- what is so if a search for races ends with a program is so if it is told
pub told_if : (P : Type 0) (f : Finding RaceWhy) (g : Finding Why) → AreTold f g → IfSome f.halted (λ h. P) →
    IfSome g.halted (λ h. P)
told_if P f g told h = same_if P f.halted g.halted told.none h

-- a program with which it ends
pub told_some : (f : Finding RaceWhy) (h : Halted RaceWhy) (w : Halted Why) → f.halted ≡ Some h →
    ((before to count : ℕ) (ps : List Passed) →
    halted_answer before to count ps (Some w) ≡ race_halted_answer before to count ps (Some h)) →
    AreTold f (record { passed = f.passed; halted = Some w })
told_some f h w is same = record {
  passed = refl;
  none = λ e. absurd (nothing h (sym is ∙ e));
  answer = λ before to count ps. same before to count ps ∙ ap (race_halted_answer before to count ps) (sym is);
}
  where
    nothing : (x : Halted RaceWhy) → Some x ≡ None → ⊥
    nothing x e = cc

-- ---- when data races are told

pub asked_some : (r : Range) (halted : Option (Halted Why)) (h : Halted Why) → halted ≡ Some h →
    IsAskedBeside r halted false
asked_some r halted h is = (λ e. absurd (apart e), λ told. absurd (other h (sym is ∙ told.1)))
  where
    apart : false ≡ true → ⊥
    apart e = cc

    other : (x : Halted Why) → Some x ≡ None → ⊥
    other x e = cc

pub asked_none : (r : Range) (halted : Option (Halted Why)) (all : Bool) → halted ≡ None →
    (all ≡ true) ↔ AreAllNumbers r →
    IsAskedBeside r halted all
asked_none r halted all is numbers = (λ e. (numbers.0 e, is), λ told. numbers.1 told.0)
