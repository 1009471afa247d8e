-- Why `all_choices` in src/graph.rt keeps its contract and what it calls with.

use Rattle.std.proofs.Common.{◌≡◌, ◌≤◌, ◌∙◌, List, ap, arith, length, map, refl, subst, sym, true}
use Rattle.std.proofs.lemmas.List.{length-map}
use Rattle.ls_labels.specs.Names.{Names, names_of}
use Rattle.ls_transitions.specs.Seen.{table_of}
use Rattle.ls_choices.specs.Points.{ArePlaced, standing_at}
use Rattle.ls_choices.specs.Rows.{AreLight, IsFull, Row, weight_of}
use Rattle.ls_choices.specs.Seen.{row_of}
use Rattle.ls_choices.specs.Standing.{AreWeights}
use Rattle.ls_choices.specs.StandingRows.{AreStandingRowsOfAll}
use Rattle.ls_choices.specs.declared.points.Point.{Point}
use Rattle.ls_choices.proofs.Gathering.{closed_there, cut_weaker, rows_told}
use Rattle.ls_choices.proofs.Weighing.{full_so, light_so, weights_are}
use Rattle.ls_choices.proofs.graph.all_choices.Goals as goal

pub weights_of-requires-clause-placed : goal.weights_of-requires-clause-placed
weights_of-requires-clause-placed c =
    let names : Names = names_of c.args.names in
    let t = table_of c.in_ok-states.states.transitions in (
      names.file,
      subst (ArePlaced names.file t) (sym c.as_slice-points.ensures.value)
          c.in_ok-states.ensures.states.placed,
    )

pub weights_of-requires-clause-many : goal.weights_of-requires-clause-many
weights_of-requires-clause-many c =
    let s = c.in_ok-states.states in
    let nodes = s.closing.graph.found.nodes.items in
    let many = c.in_ok-states.ensures.states.reached.many in
    omega (
      arith,
      many,
      length-map s.paths.items (λ p. p.items),
      length-map nodes (standing_at (table_of s.transitions)),
      ap length c.deref.ensures.value,
      ap length c.as_slice-points.ensures.value,
    )

pub rows_of_all-requires : goal.rows_of_all-requires
rows_of_all-requires c =
    let names : Names = names_of c.args.names in
    let t = table_of c.in_ok-states.states.transitions in
    record {
      placed = subst (ArePlaced names.file t) (sym c.as_slice-points.ensures.value)
          c.in_ok-states.ensures.states.placed;
    }

pub returns-clause-graph : goal.returns-clause-graph
returns-clause-graph c =
    let names : Names = names_of c.args.names in
    let s = c.in_ok-states.states in
    let t = table_of s.transitions in
    let told = c.in_ok-states.ensures.states in
    let all : List (List Row) = map (λ v. map row_of v.items) c.in_ok-rows.rows.items in
    let are : AreStandingRowsOfAll names (map (standing_at t) s.closing.graph.found.nodes.items) all =
    subst (λ (l : List Point). AreStandingRowsOfAll names (map (standing_at t) l) all) c.as_slice-points.ensures.value
    c.in_ok-rows.ensures.rows in
    record {
      begins = told.begins;
      rows = rows_told names (map (standing_at t) s.closing.graph.found.nodes.items) (map (λ p. p.items) s.paths.items)
          all told.reached are;
    }

pub returns-clause-few : goal.returns-clause-few
returns-clause-few c = λ some.
    let few = c.in_ok-states.ensures.few some in
    omega (arith, few, c.in_ok-rows.ensures.many, ap length c.as_slice-points.ensures.value)

pub returns-clause-whole : goal.returns-clause-whole
returns-clause-whole c = λ some.
    let s = c.in_ok-states.states in
    let many = c.in_ok-states.ensures.states.reached.many in
    omega (
      arith,
      many,
      length-map s.closing.graph.found.nodes.items (standing_at (table_of s.transitions)),
      c.in_ok-rows.ensures.many,
      length-map c.in_ok-rows.rows.items (λ v. map row_of v.items),
      ap length c.as_slice-points.ensures.value,
    )

pub returns-clause-light : goal.returns-clause-light
returns-clause-light c =
    let names : Names = names_of c.args.names in
    let s = c.in_ok-states.states in
    let t = table_of s.transitions in
    let paths = map (λ p. p.items) s.paths.items in
    let weights = c.in_ok-weights.weights.items in
    let seen : AreWeights (map (standing_at t) c.as_slice-points.result.now) paths weights =
    subst (λ l. AreWeights (map (standing_at t) c.as_slice-points.result.now) (map (λ p. p.items) l) weights)
    c.deref.ensures.value c.in_ok-weights.ensures in
    light_so (weight_of names) paths weights
    (weights_are names (map (standing_at t) s.closing.graph.found.nodes.items) paths weights
    c.in_ok-states.ensures.states.reached
    (subst (λ (l : List Point). AreWeights (map (standing_at t) l) paths weights) c.as_slice-points.ensures.value seen))
    (subst (AreLight (λ w. w)) c.deref-2.ensures.value (c.if-not-are_light.ensures refl))

pub returns-clause-cut : goal.returns-clause-cut
returns-clause-cut c =
    let names : Names = names_of c.args.names in
    let s = c.in_ok-states.states in
    let t = table_of s.transitions in
    let paths = map (λ p. p.items) s.paths.items in
    let weights = c.in_ok-weights.weights.items in
    let seen : AreWeights (map (standing_at t) c.as_slice-points.result.now) paths weights =
    subst (λ l. AreWeights (map (standing_at t) c.as_slice-points.result.now) (map (λ p. p.items) l) weights)
    c.deref.ensures.value c.in_ok-weights.ensures in
    cut_weaker (c.are_full.result ≡ true) (IsFull (weight_of names) c.args.most paths)
    (map (λ v. map row_of v.items) c.in_ok-rows.rows.items)
    (λ full. full_so (weight_of names) c.args.most paths weights
    (weights_are names (map (standing_at t) s.closing.graph.found.nodes.items) paths weights
    c.in_ok-states.ensures.states.reached
    (subst (λ (l : List Point). AreWeights (map (standing_at t) l) paths weights) c.as_slice-points.ensures.value seen))
    (subst (IsFull (λ w. w) c.args.most) c.deref-3.ensures.value (c.are_full.ensures full)))
    c.in_ok-rows.ensures.full

pub returns-clause-closed : goal.returns-clause-closed
returns-clause-closed c = λ some.
    let names : Names = names_of c.args.names in
    let s = c.in_ok-states.states in
    let t = table_of s.transitions in
    let told = c.in_ok-states.ensures.states in
    let states = map (standing_at t) s.closing.graph.found.nodes.items in
    let paths = map (λ p. p.items) s.paths.items in
    let all : List (List Row) = map (λ v. map row_of v.items) c.in_ok-rows.rows.items in
    let are : AreStandingRowsOfAll names states all =
    subst (λ (l : List Point). AreStandingRowsOfAll names (map (standing_at t) l) all) c.as_slice-points.ensures.value
    c.in_ok-rows.ensures.rows in
    let same : length paths ≡ length all =
    omega (
      arith,
      told.reached.many,
      length-map s.closing.graph.found.nodes.items (standing_at t),
      c.in_ok-rows.ensures.many,
      length-map c.in_ok-rows.rows.items (λ v. map row_of v.items),
      ap length c.as_slice-points.ensures.value,
    ) in
    closed_there names c.args.first.now paths all told.begins same
    (rows_told names states paths all told.reached are)
