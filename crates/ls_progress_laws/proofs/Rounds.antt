-- A lasso is played again and again.
use Rattle.std.proofs.Common.{◌≡◌, ℕ, zero, suc, ◌+◌, ◌≤◌, List, ◌++◌, sym, subst, arith}
use Rattle.ls_checked.specs.CheckedTree.{File}
use Rattle.ls_search_laws.specs.Configuration.{Configuration}
use Rattle.ls_progress_laws.specs.Progress.{Kind, rounds}
use Rattle.ls_progress_laws.specs.Laws.{IsOther, LassosGoRound, RoundsAreEndless}
use Rattle.ls_progress_laws.proofs.Others.{end_other, other_both, owns_other, within_other}
use Rattle.ls_progress_laws.proofs.Steps.{end_both, own_both, within_both}
use Rattle.ls_progress_laws.specs.Strides.{AreWithin, end, own_strides}

module _ (kind : Kind) (file : File) (c : Configuration) (cycle : List ℕ) (quiet : AreWithin kind file c cycle)
    (some : 1 ≤ own_strides kind file c cycle) (again : IsOther c (end file c cycle)) where
  pub record Rounds (d : Configuration) (n : ℕ) : Type 0 where
    pub within : AreWithin kind file d (rounds n cycle)
    pub many : n ≤ own_strides kind file d (rounds n cycle)
    pub back : IsOther c (end file d (rounds n cycle))

  pub go_round : (n : ℕ) (d : Configuration) → IsOther c d → Rounds d n
  go_round zero d h = record { within = tt; many = omega arith; back = h }
  go_round (suc n) d h =
      let once : IsOther c (end file d cycle) =
      other_both c (end file c cycle) (end file d cycle) again (end_other kind file c d h cycle) in
      let rest = go_round n (end file d cycle) once in
      let own : own_strides kind file d cycle ≡ own_strides kind file c cycle = owns_other kind file c d h cycle in
      let sum : own_strides kind file d (cycle ++ rounds n cycle) ≡
      own_strides kind file d cycle + own_strides kind file (end file d cycle) (rounds n cycle) =
      own_both kind file d cycle (rounds n cycle) in
      let more = rest.many in
      record {
        within = within_both kind file d cycle (rounds n cycle) (within_other kind file c d h cycle quiet) rest.within;
        many = omega (arith, some, own, sum, more);
        back = subst (IsOther c) (sym (end_both kind file d cycle (rounds n cycle))) rest.back;
      }

pub lassos_go_round : LassosGoRound
lassos_go_round kind file root call way cycle lasso =
    let r = λ (n : ℕ).
    go_round kind file lasso.start cycle lasso.within lasso.some lasso.back n (end file root way) lasso.led in
    record { in_call = lasso.in_call; within = λ n. (r n).within; many = λ n. (r n).many }

pub rounds_are_endless : RoundsAreEndless
rounds_are_endless kind file program call way cycle round n =
    record {
      before = way;
      path = rounds n cycle;
      in_call = round.in_call;
      within = round.within n;
      many = round.many n;
    }
