-- What nodes weigh together, and graphs within bounds.
use Rattle.std.proofs.Common.{◌≡◌, ◌≤◌, ◌<◌, ℕ, suc, ◌+◌, List, [], ◌∷◌, ◌++◌, Some, length, map, reverse, refl, sym}
use Rattle.std.proofs.Common.{ap, ◌∙◌, arith}
use Rattle.std.specs.Prelude.{slice_get}
use Rattle.std.proofs.lemmas.List.{length-append, reverse-append}
use Rattle.ls_graph.specs.declared.nodes.Bounds.{Bounds}
use Rattle.ls_graph.specs.declared.nodes.Nodes.{Nodes}
use Rattle.ls_graph.specs.Graph.{IsBounded}
use Rattle.ls_graph.specs.Weights.{total}

-- one more
pub total_more : {N : Type 0} (weighs : N → ℕ) (nodes : List N) (n : N) →
    total weighs (nodes ++ n ∷ []) ≡ total weighs nodes + weighs n
total_more weighs [] n = omega arith
total_more weighs (m ∷ nodes) n = let h = total_more weighs nodes n in omega (arith, h)

-- images that weigh no less
pub total_less : {N M : Type 0} (weighs : N → ℕ) (weighs' : M → ℕ) (f : N → M) (nodes : List N) →
    ((i : ℕ) (n : N) → slice_get nodes i ≡ Some n → weighs n ≤ weighs' (f n)) →
    total weighs nodes ≤ total weighs' (map f nodes)
total_less weighs weighs' f [] less = omega arith
total_less weighs weighs' f (n ∷ nodes) less =
    let here = less 0 n refl in
    let rest = total_less weighs weighs' f nodes (λ i m e. less (suc i) m e) in
    omega (arith, here, rest)

-- ---- within bounds

-- the last of a list is one
last_is : {N : Type 0} (front front' : List N) (n m : N) → front ++ n ∷ [] ≡ front' ++ m ∷ [] → n ≡ m
last_is front front' n m same =
    let turned : n ∷ reverse front ≡ m ∷ reverse front' =
    sym (reverse-append front (n ∷ [])) ∙ ap reverse same ∙ reverse-append front' (m ∷ []) in
    heads turned
  where
    heads : {A : Type 0} {x y : A} {xs ys : List A} → x ∷ xs ≡ y ∷ ys → x ≡ y
    heads h = cc

-- a node alone
pub bounded_alone : {N : Type 0} (weighs : N → ℕ) (bounds : Bounds) (found : Nodes N) (node : N) →
    found.nodes.items ≡ node ∷ [] →
    found.weight ≤ total weighs found.nodes.items →
    1 ≤ bounds.limit →
    IsBounded weighs bounds found
bounded_alone weighs bounds found node is weight room = record {
  few = let one = ap length is in omega (arith, one, room);
  light = λ front n same.
      let one : node ≡ n = last_is [] front node n (sym is ∙ same) in
      let all = ap (total weighs) is in
      let last = ap weighs one in
      omega (arith, weight, all, last);
}

-- one node more, where those before it weigh no more than they may
pub bounded_more : {N : Type 0} (weighs : N → ℕ) (bounds : Bounds) (found found' : Nodes N) (node : N) →
    length found.nodes.items < bounds.limit →
    found.weight ≤ bounds.weight →
    found'.nodes.items ≡ found.nodes.items ++ node ∷ [] →
    found'.weight ≤ found.weight + weighs node →
    IsBounded weighs bounds found'
bounded_more weighs bounds found found' node few light more weight = record {
  few = let longer = ap length more in omega (arith, few, longer, length-append found.nodes.items (node ∷ []));
  light = λ front n same.
      let one : node ≡ n = last_is found.nodes.items front node n (sym more ∙ same) in
      let last = ap weighs one in
      omega (arith, light, weight, last);
}
