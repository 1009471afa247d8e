-- Why `find_longer` in src/numbering.rt keeps its contract, its loop and what it calls with.

use Rattle.std.proofs.Common.{◌≡◌, ◌⊎◌, inl, inr, ℕ, ◌<◌, ◌≤◌, true, false, List, Some, sym, ap}
use Rattle.std.proofs.Common.{◌∙◌, arith, get_or}
use Rattle.std.specs.Prelude.{slice_get}
use Rattle.std.proofs.lemmas.Bool.{cases_lt}
use Rattle.std.proofs.lemmas.Option.{slice_get-get_or}
use Rattle.ls_history_numbers.proofs.Finding.{found, longer_there, longer_within, not_found}
use Rattle.ls_history_numbers.proofs.Lists.{below, some_is, there, there_at}
use Rattle.ls_history_numbers.proofs.numbering.find_longer.Goals as goal

not_both : true ≡ false → ⊥
not_both e = cc

pub has_last-requires : goal.has_last-requires
has_last-requires c =
    let p = there c.args.all.now c.args.number c.requires.within in
    longer_within c.args.all.now c.requires.numbered c.args.number p.0 p.1 c.longer_of-longer.result.now
    (c.longer_of-longer.ensures p.0 p.1) c.loop-at.at (omega arith)

pub returns-then-has_last-clause-some : goal.returns-then-has_last-clause-some
returns-then-has_last-clause-some c = λ p p_is.
    found c.args.all.now c.requires.numbered c.args.number p p_is c.args.event.now
    (get_or c.longer_of-longer.result.now c.loop-at.at 0) c.has_last.result
    (longer_there p c.longer_of-longer.result.now (c.longer_of-longer.ensures p p_is) c.loop-at.at (omega arith))
    c.if-has_last.true c.has_last.ensures

pub loop-at-preserved : goal.loop-at-preserved
loop-at-preserved c = λ i n less here k g e k_is is same.
    let longer : List ℕ = c.longer_of-longer.result.now in
    let by_place : (i < c.loop-at.at) ⊎ (c.loop-at.at ≤ i) → ⊥ = elim [
      | inl before ↦ c.loop-at.invariant i n before here k g e k_is is same
      | inr past ↦
          let i_is : i ≡ c.loop-at.at = omega (arith, past, less) in
          let n_is : n ≡ get_or longer c.loop-at.at 0 =
          some_is (sym here ∙ ap (slice_get longer) i_is ∙ slice_get-get_or longer c.loop-at.at 0 (omega arith)) in
          not_both (sym ((c.has_last.ensures k g e (ap (slice_get c.args.all.now) (sym n_is) ∙ k_is) is).1 same)
          ∙ c.if-has_last.false)
    ] in
    by_place (cases_lt i c.loop-at.at)

pub returns-clause-none : goal.returns-clause-none
returns-clause-none c = λ p p_is.
    not_found c.args.all.now c.requires.numbered c.args.number p p_is c.args.event.now
    (λ n contains k g e k_is is same.
    let longer_is = c.longer_of-longer.ensures p p_is in
    let here : slice_get c.longer_of-longer.result.now contains.0 ≡ Some n =
    ap (λ l. slice_get l contains.0) longer_is ∙ there_at p.longer.items n contains in
    let less = below c.longer_of-longer.result.now contains.0 n here in
    c.loop-at.invariant contains.0 n (omega (arith, less)) here k g e k_is is same)
