-- Graphs that grow.
use Rattle.std.proofs.Common.{◌≡◌, ◌⊎◌, inl, inr, ℕ, zero, suc, true, ◌<◌, ◌≤◌, ◌+◌, Bool, List, [], ◌∷◌, ◌++◌}
use Rattle.std.proofs.Common.{length, map, Some, refl, sym, ap, ◌∙◌, subst}
use Rattle.std.proofs.Common.{arith}
use Rattle.std.specs.Prelude.{IfNone, IfSome, None, Option, slice_get}
use Rattle.std.proofs.lemmas.Bool.{cases_lt}
use Rattle.std.proofs.lemmas.List.{length-map}
use Rattle.ls_graph.specs.Grown.{Grows, IsNodeAt, Keeps, Pushed}
use Rattle.ls_graph.specs.Graph.{AreEdges, AreKnown, AreLooked, Goes, HasEdge, IsEdge, IsLooked, IsTold, IsWeighed}
use Rattle.ls_graph.specs.Graph.{states_in}
use Rattle.ls_graph.specs.declared.closing.Edge.{Edge}
use Rattle.ls_graph.specs.declared.closing.Graph.{Graph}
use Rattle.ls_graph.proofs.Lists.{below, keeps_pushed, map_from, map_there, pushed_cases, same_there, some_is, there}

-- a list that is pushed to keeps what it has
pub keeps_more : {A : Type 0} (xs ys : List A) (x : A) → Pushed xs ys x → Keeps xs ys
keeps_more xs ys x (inl same) n y e = subst (λ l. slice_get l n ≡ Some y) (sym same) e
keeps_more xs ys x (inr more) n y e = subst (λ l. slice_get l n ≡ Some y) (sym more) (keeps_pushed xs x n y e)

-- what stands in it stood there, or is the new one
pub pushed_is : {A : Type 0} (xs ys : List A) (x : A) → Pushed xs ys x → (n : ℕ) (y : A) → slice_get ys n ≡ Some y →
    (slice_get xs n ≡ Some y) ⊎ (x ≡ y)
pushed_is xs ys x (inl same) n y e = inl (subst (λ l. slice_get l n ≡ Some y) same e)
pushed_is xs ys x (inr more) n y e = pushed_cases xs x n y (subst (λ l. slice_get l n ≡ Some y) more e)

module _ {T N S : Type 0} (IsKnown : T → N → Type 0) (stands : T → N → S) (Leads : S → ℕ → ℕ → S → Type 0)
    (t t' : T) (grows : Grows IsKnown stands t t') where
  module _ (g g' : Graph N) (known : AreKnown IsKnown t g.found.nodes.items) where
    -- nodes with one more
    module _ (node : N) (pushed : Pushed g.found.nodes.items g'.found.nodes.items node) (is : IsKnown t' node) where
      pub all_known : AreKnown IsKnown t' g'.found.nodes.items
      all_known at n e = by_place (pushed_is g.found.nodes.items g'.found.nodes.items node pushed at n e)
        where
          by_place : (slice_get g.found.nodes.items at ≡ Some n) ⊎ (node ≡ n) → IsKnown t' n
          by_place (inl old) = (grows n (known at n old)).0
          by_place (inr same) = subst (IsKnown t') same is

      pub states_keep : Keeps (states_in stands t g) (states_in stands t' g')
      states_keep at s e =
          let was = map_from (stands t) g.found.nodes.items at s e in
          map_there (stands t') g'.found.nodes.items at was.0
          (keeps_more g.found.nodes.items g'.found.nodes.items node pushed at was.0 was.1)
          ∙ ap Some ((grows was.0 (known at was.0 was.1)).1 ∙ was.2)

pub edge_stays : {S : Type 0} (Leads : S → ℕ → ℕ → S → Type 0) (ss ss' : List S) (e : Edge) → Keeps ss ss' →
    IsEdge Leads ss e →
    IsEdge Leads ss' e
edge_stays Leads ss ss' e keeps h = record {
  one = h.one;
  here = keeps e.from h.one h.here;
  other = h.other;
  there = keeps e.to h.other h.there;
  leads = h.leads;
}

-- edges with one more
pub all_led : {S : Type 0} (Leads : S → ℕ → ℕ → S → Type 0) (ss ss' : List S) (es es' : List Edge) (e : Edge) →
    Keeps ss ss' →
    AreEdges Leads ss es →
    Pushed es es' e →
    ((es' ≡ es → ⊥) → IsEdge Leads ss' e) →
    AreEdges Leads ss' es'
all_led Leads ss ss' es es' e keeps led (inl same) is i x h =
    edge_stays Leads ss ss' x keeps (led i x (subst (λ l. slice_get l i ≡ Some x) same h))
all_led Leads ss ss' es es' e keeps led (inr more) is i x h =
    by_place (pushed_cases es e i x (subst (λ l. slice_get l i ≡ Some x) more h))
  where
    longer : es' ≡ es → ⊥
    longer same = not_same es e (sym same ∙ more)
      where
        not_same : (l : List Edge) (x : Edge) → l ≡ l ++ x ∷ [] → ⊥
        not_same [] x h = cc
        not_same (y ∷ l) x h = not_same l x cc

    by_place : (slice_get es i ≡ Some x) ⊎ (e ≡ x) → IsEdge Leads ss' x
    by_place (inl old) = edge_stays Leads ss ss' x keeps (led i x old)
    by_place (inr same) = subst (IsEdge Leads ss') same (is longer)

pub edge_still : (es es' : List Edge) (at u : ℕ) → Keeps es es' → HasEdge es at u → HasEdge es' at u
edge_still es es' at u keeps h = record {
  place = h.place;
  edge = h.edge;
  here = keeps h.place h.edge h.here;
  from_is = h.from_is;
  actor_is = h.actor_is;
}

pub told_still : {S : Type 0} (Rests : S → ℕ → Type 0) (Ends : S → Type 0) (es es' : List Edge) (at : ℕ) (s : S)
    (u : ℕ) →
    Keeps es es' →
    IsTold Rests Ends es at s u →
    IsTold Rests Ends es' at s u
told_still Rests Ends es es' at s u keeps (inl rests) = inl rests
told_still Rests Ends es es' at s u keeps (inr has) = inr (edge_still es es' at u keeps has)

pub edges_still : {S : Type 0} (Leads : S → ℕ → ℕ → S → Type 0) (ss ss' : List S) (es : List Edge) → Keeps ss ss' →
    AreEdges Leads ss es →
    AreEdges Leads ss' es
edges_still Leads ss ss' es keeps led i e h = edge_stays Leads ss ss' e keeps (led i e h)

pub of_some : {A : Type 0} (P : A → Type 0) (o : Option A) (a : A) → o ≡ Some a → IfSome o P → P a
of_some P o a is h = subst (λ x. IfSome x P) is h

pub none_then : {A P : Type 0} (o : Option A) → ((a : A) → o ≡ Some a → ⊥) → IfNone o P → P
none_then None isnt h = h
none_then (Some a) isnt h = absurd (isnt a refl)

pub of_none : {A : Type 0} (P : Type 0) (o : Option A) → o ≡ None → IfNone o P → P
of_none P o is h = subst (λ x. IfNone x P) is h

module _ {T N S : Type 0} (IsKnown : T → N → Type 0) (stands : T → N → S) (Leads : S → ℕ → ℕ → S → Type 0)
    (t t' : T) (grows : Grows IsKnown stands t t') (g g' : Graph N) (known : AreKnown IsKnown t g.found.nodes.items)
    (led : AreEdges Leads (states_in stands t g) g.edges.items) (weighs : N → ℕ) (weighed : IsWeighed weighs g') where
  -- the same nodes and edges
  pub goes_still : g'.found.nodes.items ≡ g.found.nodes.items → g'.edges.items ≡ g.edges.items →
      Goes IsKnown stands Leads weighs t g t' g'
  goes_still nodes edges =
      let keeps : Keeps (states_in stands t g) (states_in stands t' g') = λ at s e.
      let was = map_from (stands t) g.found.nodes.items at s e in
      map_there (stands t') g'.found.nodes.items at was.0 (ap (λ l. slice_get l at) nodes ∙ was.1)
      ∙ ap Some ((grows was.0 (known at was.0 was.1)).1 ∙ was.2) in
      record {
        known = λ at n e. (grows n (known at n (ap (λ l. slice_get l at) (sym nodes) ∙ e))).0;
        led = subst (AreEdges Leads (states_in stands t' g')) (sym edges)
            (edges_still Leads (states_in stands t g) (states_in stands t' g') g.edges.items keeps led);
        states = keeps;
        edges = λ n x e. ap (λ l. slice_get l n) edges ∙ e;
        weighed = weighed;
      }

  module _ (node : N) (pushed : Pushed g.found.nodes.items g'.found.nodes.items node) (is : IsKnown t' node) where
    keeps : Keeps (states_in stands t g) (states_in stands t' g')
    keeps = states_keep IsKnown stands Leads t t' grows g g' known node pushed is

    -- one node more, perhaps
    pub goes_node : g'.edges.items ≡ g.edges.items → Goes IsKnown stands Leads weighs t g t' g'
    goes_node edges = record {
      known = all_known IsKnown stands Leads t t' grows g g' known node pushed is;
      led = subst (AreEdges Leads (states_in stands t' g')) (sym edges)
          (edges_still Leads (states_in stands t g) (states_in stands t' g') g.edges.items keeps led);
      states = keeps;
      edges = λ n x e. ap (λ l. slice_get l n) edges ∙ e;
      weighed = weighed;
    }

    -- and one edge more
    pub goes_edge : (e : Edge) (one : N) → g'.edges.items ≡ g.edges.items ++ e ∷ [] →
        slice_get g.found.nodes.items e.from ≡ Some one →
        IsNodeAt stands g'.found.nodes.items node e.to →
        Leads (stands t one) e.actor e.mark (stands t' node) →
        Goes IsKnown stands Leads weighs t g t' g'
    goes_edge e one edges here to leads = record {
      known = all_known IsKnown stands Leads t t' grows g g' known node pushed is;
      led = all_led Leads (states_in stands t g) (states_in stands t' g') g.edges.items g'.edges.items e keeps led
          (inr edges) (λ _. record {
            one = stands t one;
            here = keeps e.from (stands t one) (map_there (stands t) g.found.nodes.items e.from one here);
            other = stands t' node;
            there = map_there (stands t') g'.found.nodes.items e.to to.one to.here ∙ ap Some (to.same t');
            leads = leads;
          });
      states = keeps;
      edges = keeps_more g.edges.items g'.edges.items e (inr edges);
      weighed = weighed;
    }

pub goes_both : {T N S : Type 0} (IsKnown : T → N → Type 0) (stands : T → N → S) (Leads : S → ℕ → ℕ → S → Type 0)
    (weighs : N → ℕ) (t : T) (g : Graph N) (t' : T) (g' : Graph N) (t'' : T) (g'' : Graph N) →
    Goes IsKnown stands Leads weighs t g t' g' →
    Goes IsKnown stands Leads weighs t' g' t'' g'' →
    Goes IsKnown stands Leads weighs t g t'' g''
goes_both IsKnown stands Leads weighs t g t' g' t'' g'' h k = record {
  known = k.known;
  led = k.led;
  states = λ n x e. k.states n x (h.states n x e);
  edges = λ n x e. k.edges n x (h.edges n x e);
  weighed = k.weighed;
}

-- what is a place stays one
pub within_still : {A : Type 0} (xs ys : List A) (at : ℕ) → Keeps xs ys → at < length xs → at < length ys
within_still xs ys at keeps h = let x = there xs at h in below ys at x.0 (keeps at x.0 x.1)

pub within_states : {T N S : Type 0} (stands : T → N → S) (t : T) (g : Graph N) (at : ℕ) →
    at < length g.found.nodes.items →
    at < length (states_in stands t g)
within_states stands t g at h = omega (arith, h, length-map g.found.nodes.items (stands t))

pub within_nodes : {T N S : Type 0} (stands : T → N → S) (t : T) (g : Graph N) (at : ℕ) →
    at < length (states_in stands t g) →
    at < length g.found.nodes.items
within_nodes stands t g at h = omega (arith, h, length-map g.found.nodes.items (stands t))

-- one actor more
pub told_more : {S : Type 0} (Rests : S → ℕ → Type 0) (Ends : S → Type 0) (es es' : List Edge) (at : ℕ) (s : S)
    (actor : ℕ) →
    Keeps es es' →
    ((u : ℕ) → u < actor → IsTold Rests Ends es at s u) →
    IsTold Rests Ends es' at s actor →
    (u : ℕ) → u < actor + 1 → IsTold Rests Ends es' at s u
told_more Rests Ends es es' at s actor keeps before here u less = by_place (cases_lt u actor)
  where
    by_place : (u < actor) ⊎ (actor ≤ u) → IsTold Rests Ends es' at s u
    by_place (inl h) = told_still Rests Ends es es' at s u keeps (before u h)
    by_place (inr h) = let same : actor ≡ u = omega (arith, h, less) in subst (IsTold Rests Ends es' at s) same here

pub goes_none : {T N S : Type 0} (IsKnown : T → N → Type 0) (stands : T → N → S) (Leads : S → ℕ → ℕ → S → Type 0)
    (weighs : N → ℕ) (t : T) (g : Graph N) → AreKnown IsKnown t g.found.nodes.items →
    AreEdges Leads (states_in stands t g) g.edges.items →
    IsWeighed weighs g →
    Goes IsKnown stands Leads weighs t g t g
goes_none IsKnown stands Leads weighs t g known led weighed = record {
  known = known;
  led = led;
  states = λ n x e. e;
  edges = λ n x e. e;
  weighed = weighed;
}

-- What was told of a node is told still, where nothing can stand at its place that didn't.
module _ {S : Type 0} (Rests : S → ℕ → Type 0) (Ends : S → Type 0) (ss ss' : List S) (es es' : List Edge) (actors : ℕ)
    (keeps : Keeps ss ss') (edges : Keeps es es') where
  looked_still : (at : ℕ) → at < length ss →
      ((s : S) → slice_get ss at ≡ Some s → IsLooked Rests Ends es actors at s) →
      (s : S) → slice_get ss' at ≡ Some s → IsLooked Rests Ends es' actors at s
  looked_still at within looked s here =
      let h = looked s (same_there ss ss' at s keeps within here) in
      record { no_end = h.no_end; told = λ u less. told_still Rests Ends es es' at s u edges (h.told u less) }

  module _ (looked : List Bool) (old : AreLooked Rests Ends ss es actors looked) where
    pub all_still : AreLooked Rests Ends ss' es' actors looked
    all_still i marked =
        let h = old i marked in
        (within_still ss ss' i keeps h.0, looked_still i h.0 h.1)

    -- and one more
    pub all_more : (looked' : List Bool) (at : ℕ) → at < length ss' →
        ((s : S) → slice_get ss' at ≡ Some s → IsLooked Rests Ends es' actors at s) →
        ((i : ℕ) → slice_get looked' i ≡ Some true → (i ≡ at) ⊎ (slice_get looked i ≡ Some true)) →
        AreLooked Rests Ends ss' es' actors looked'
    all_more looked' at within here only i marked = by_place (only i marked)
      where
        Told : ℕ → Type 0
        Told k = (k < length ss') × ((s : S) → slice_get ss' k ≡ Some s → IsLooked Rests Ends es' actors k s)

        by_place : (i ≡ at) ⊎ (slice_get looked i ≡ Some true) → Told i
        by_place (inl same) = subst Told (sym same) (within, here)
        by_place (inr before) = all_still i before

-- what is seen of a node while tables grow
module _ {T N S : Type 0} (Rests : S → ℕ → Type 0) (Ends : S → Type 0) (IsKnown : T → N → Type 0) (stands : T → N → S)
    (Leads : S → ℕ → ℕ → S → Type 0) (weighs : N → ℕ) (t t' t'' : T) (g g'' : Graph N)
    (still : Goes IsKnown stands Leads weighs t g t' g) (goes : Goes IsKnown stands Leads weighs t' g t'' g'')
    (actors at : ℕ) where
  pub looked_here : at < length g.found.nodes.items →
      ((n : N) → slice_get g.found.nodes.items at ≡ Some n → Ends (stands t n) → ⊥) →
      ((s : S) → slice_get (states_in stands t' g) at ≡ Some s → (u : ℕ) → u < actors →
      IsTold Rests Ends g''.edges.items at s u) →
      (s : S) → slice_get (states_in stands t'' g'') at ≡ Some s → IsLooked Rests Ends g''.edges.items actors at s
  looked_here within not told s here =
      let later : slice_get (states_in stands t' g) at ≡ Some s =
      same_there (states_in stands t' g) (states_in stands t'' g'') at s goes.states
      (within_states stands t' g at within) here in
      let first = map_from (stands t) g.found.nodes.items at s
      (same_there (states_in stands t g) (states_in stands t' g) at s still.states (within_states stands t g at within)
      later) in
      record { no_end = λ e. not first.0 first.1 (subst Ends (sym first.2) e); told = told s later }

-- a node alone
pub known_alone : {T N : Type 0} (IsKnown : T → N → Type 0) (t : T) (nodes : List N) (n : N) → nodes ≡ n ∷ [] →
    IsKnown t n →
    AreKnown IsKnown t nodes
known_alone IsKnown t nodes n is known at x e = by_place at (subst (λ l. slice_get l at ≡ Some x) is e)
  where
    by_place : (at : ℕ) → slice_get (n ∷ []) at ≡ Some x → IsKnown t x
    by_place zero e = subst (IsKnown t) (some_is e) known
    by_place (suc at) e = cc

pub no_edges : {S : Type 0} (Leads : S → ℕ → ℕ → S → Type 0) (ss : List S) (es : List Edge) → es ≡ [] →
    AreEdges Leads ss es
no_edges Leads ss es is i e h = absurd (none (subst (λ l. slice_get l i ≡ Some e) is h))
  where
    none : slice_get [] i ≡ Some e → ⊥
    none h = cc

pub none_looked : {S : Type 0} (Rests : S → ℕ → Type 0) (Ends : S → Type 0) (ss : List S) (es : List Edge) (actors : ℕ)
    (looked : List Bool) →
    looked ≡ [] →
    AreLooked Rests Ends ss es actors looked
none_looked Rests Ends ss es actors looked is at marked =
    absurd (none (subst (λ l. slice_get l at ≡ Some true) is marked))
  where
    none : slice_get [] at ≡ Some true → ⊥
    none h = cc

pub first_stands : {T N S : Type 0} (stands : T → N → S) (t : T) (nodes : List N) (n : N) → nodes ≡ n ∷ [] →
    slice_get (map (stands t) nodes) 0 ≡ Some (stands t n)
first_stands stands t nodes n is = ap (λ l. slice_get (map (stands t) l) 0) is
