-- Why `first_stuck` in src/graphs.rt keeps its contract, its loop and what it calls with.
use Rattle.std.proofs.Common.{◌≡◌, ◌⊎◌, inl, inr, ◌<◌, ◌≤◌, true, false, List, length, Some, sym, ap, ◌∙◌, subst, arith}
use Rattle.std.specs.Prelude.{slice_get, slice_index_or}
use Rattle.std.proofs.lemmas.Bool.{cases_Bool, cases_lt}
use Rattle.std.proofs.lemmas.Option.{slice_get-get_or}
use Rattle.ls_graph.specs.Found.{HasAny}
use Rattle.ls_graph.proofs.Lists.{below, some_is}
use Rattle.ls_transitions.specs.Seen.{table_of}
use Rattle.ls_transitions.specs.Tables.{Table}
use Rattle.ls_transitions.proofs.Growing.{grows_on}
use Rattle.ls_search.specs.declared.space.Kept.{Kept}
use Rattle.ls_search.specs.Answers.{IsStuck}
use Rattle.ls_search.specs.Places.{configuration_of}
use Rattle.ls_search.proofs.FollowingOn.{stuck_before, stuck_later}
use Rattle.ls_search.proofs.Strides.{there_still}
use Rattle.ls_search.proofs.graphs.first_stuck.Goals as goal

pub is_stuck_if-requires-clause-there : goal.is_stuck_if-requires-clause-there
is_stuck_if-requires-clause-there c =
    let t : Table = table_of c.args.transitions.now in
    let t' : Table = table_of c.loop-at.transitions in
    let nodes : List Kept = c.args.closing.now.graph.found.nodes.items in
    let n : Kept = slice_index_or c.as_slice-nodes.result.now c.loop-at.at c.index-nodes-at.result in
    let here : slice_get nodes c.loop-at.at ≡ Some n =
    ap (λ l. slice_get l c.loop-at.at) (sym c.as_slice-nodes.ensures.value)
    ∙ slice_get-get_or c.as_slice-nodes.result.now c.loop-at.at c.index-nodes-at.result c.loop-at-test.true in
    there_still t t' n.place.store n.place.works.items c.loop-at.invariant.grows (c.requires.wide c.loop-at.at n here).0

pub is_stuck_if-requires-clause-width : goal.is_stuck_if-requires-clause-width
is_stuck_if-requires-clause-width c =
    let t : Table = table_of c.args.transitions.now in
    let t' : Table = table_of c.loop-at.transitions in
    let nodes : List Kept = c.args.closing.now.graph.found.nodes.items in
    let n : Kept = slice_index_or c.as_slice-nodes.result.now c.loop-at.at c.index-nodes-at.result in
    let here : slice_get nodes c.loop-at.at ≡ Some n =
    ap (λ l. slice_get l c.loop-at.at) (sym c.as_slice-nodes.ensures.value)
    ∙ slice_get-get_or c.as_slice-nodes.result.now c.loop-at.at c.index-nodes-at.result c.loop-at-test.true in
    (c.requires.wide c.loop-at.at n here).1

pub returns-then-branch-clause-some : goal.returns-then-branch-clause-some
returns-then-branch-clause-some c = λ m m_here.
    let t : Table = table_of c.args.transitions.now in
    let t' : Table = table_of c.loop-at.transitions in
    let nodes : List Kept = c.args.closing.now.graph.found.nodes.items in
    let n : Kept = slice_index_or c.as_slice-nodes.result.now c.loop-at.at c.index-nodes-at.result in
    let here : slice_get nodes c.loop-at.at ≡ Some n =
    ap (λ l. slice_get l c.loop-at.at) (sym c.as_slice-nodes.ensures.value)
    ∙ slice_get-get_or c.as_slice-nodes.result.now c.loop-at.at c.index-nodes-at.result c.loop-at-test.true in
    subst (λ (k : Kept). IsStuck t.file (configuration_of t k.place)) (some_is (sym here ∙ m_here))
    (stuck_before t t' n.place c.loop-at.invariant.grows (c.requires.wide c.loop-at.at n here).0
    (c.in_ok-is_stuck_if.ensures.some c.if-branch.true))

pub returns-then-branch-clause-grows : goal.returns-then-branch-clause-grows
returns-then-branch-clause-grows c =
    grows_on (table_of c.args.transitions.now) (table_of c.loop-at.transitions) (table_of c.is_stuck_if.new.transitions)
    c.loop-at.invariant.grows c.is_stuck_if.ensures.grows

pub loop-at-preserved : goal.loop-at-preserved
loop-at-preserved c =
    let t : Table = table_of c.args.transitions.now in
    let t' : Table = table_of c.loop-at.transitions in
    let nodes : List Kept = c.args.closing.now.graph.found.nodes.items in
    let n : Kept = slice_index_or c.as_slice-nodes.result.now c.loop-at.at c.index-nodes-at.result in
    let here : slice_get nodes c.loop-at.at ≡ Some n =
    ap (λ l. slice_get l c.loop-at.at) (sym c.as_slice-nodes.ensures.value)
    ∙ slice_get-get_or c.as_slice-nodes.result.now c.loop-at.at c.index-nodes-at.result c.loop-at-test.true in
    let edges = c.args.closing.now.graph.edges.items in
    let looked = c.args.closing.now.looked.items in
    let wide = (c.requires.wide c.loop-at.at n here).0 in
    let by_asked : slice_get looked c.loop-at.at ≡ Some true → IsStuck t.file (configuration_of t n.place) →
    (c.may_be_stuck-asked.result ≡ true) ⊎ (c.may_be_stuck-asked.result ≡ false) → HasAny edges c.loop-at.at =
    λ done stuck. elim [
      | inl asked ↦ absurd (c.in_ok-is_stuck_if.ensures.none c.if-branch.false asked
          (stuck_later t t' n.place c.loop-at.invariant.grows wide stuck))
      | inr not ↦ c.in_ok-left.ensures c.loop-at.at
          (ap (λ l. slice_get l c.loop-at.at) (sym c.deref-in-loop-at.ensures.value) ∙ c.may_be_stuck-asked.ensures not
          (ap (λ l. slice_get l c.loop-at.at) c.deref.ensures.value ∙ done))
    ] in
    record {
      grows = grows_on t t' (table_of c.is_stuck_if.new.transitions) c.loop-at.invariant.grows
          c.is_stuck_if.ensures.grows;
      none = λ k m less m_here done stuck.
          let by_place : (k < c.loop-at.at) ⊎ (c.loop-at.at ≤ k) → HasAny edges k = elim [
            | inl before ↦ c.loop-at.invariant.none k m before m_here done stuck
            | inr past ↦
                let same : k ≡ c.loop-at.at = omega (arith, past, less) in
                let is : m ≡ n = some_is (sym m_here ∙ ap (slice_get nodes) same ∙ here) in
                subst (HasAny edges) (sym same)
                (by_asked (ap (slice_get looked) (sym same) ∙ done)
                (subst (λ (x : Kept). IsStuck t.file (configuration_of t x.place)) is stuck)
                (cases_Bool c.may_be_stuck-asked.result))
          ] in
          by_place (cases_lt k c.loop-at.at);
    }

pub returns-clause-none : goal.returns-clause-none
returns-clause-none c = λ at n here done stuck.
    let many = ap length c.as_slice-nodes.ensures.value in
    let within = below c.args.closing.now.graph.found.nodes.items at n here in
    c.loop-at.invariant.none at n (omega (arith, within, c.loop-at-test.false, many)) here done stuck
