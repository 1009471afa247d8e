-- Schedules that lead to the states that were found.
use Rattle.std.proofs.Common.{◌≡◌, ◌⊎◌, inl, inr, ℕ, zero, suc, ◌+◌, ◌<◌, ◌≤◌, List, [], ◌∷◌, ◌++◌, length, Some}
use Rattle.std.proofs.Common.{refl, sym, ap, ◌∙◌, subst, arith, replicate, length-append}
use Rattle.std.specs.Prelude.{slice_get}
use Rattle.std.specs.List.{fold}
use Rattle.std.proofs.lemmas.List.Sums.{fold-append}
use Rattle.ls_events.specs.declared.event.Event.{Event}
use Rattle.ls_checked.specs.CheckedTree.{File}
use Rattle.ls_checked.specs.CheckedProgram.{Program}
use Rattle.ls_meaning.specs.Still.{IsActing}
use Rattle.ls_search_laws.specs.Configuration.{Configuration, stride}
use Rattle.ls_search_laws.specs.Noticing.{Noticed, noticed_after}
use Rattle.ls_graph.specs.declared.closing.Edge.{Edge}
use Rattle.ls_graph.specs.Found.{AreFound, AreOnce, IsFoundBy}
use Rattle.ls_graph.specs.Graph.{AreEdges, IsEdge}
use Rattle.ls_graph.specs.Grown.{Keeps}
use Rattle.ls_graph.proofs.Lists.{keeps_pushed, pushed_where, some_is, there}
use Rattle.ls_search.specs.Objects.{HaveObjects}
use Rattle.ls_search.specs.Searched.{HidesNames, IsLike}
use Rattle.ls_search.specs.Space.{GoesTo}
use Rattle.ls_search.specs.Tried.{GoesOn, HasTried, Tried}
use Rattle.ls_search.proofs.Following.{edge_like}
use Rattle.ls_search.proofs.Likeness.{acting_other, like_both, like_fold, like_same}

-- ---- by what a thread acts

goes_on_if : (P Q : List ℕ → ℕ → Type 0) → ((path : List ℕ) (u : ℕ) → P path u → Q path u) →
    (tried : List Tried) (at : ℕ) (t : Tried) →
    GoesOn P tried at t →
    GoesOn Q tried at t
goes_on_if P Q so tried at t h = record {
  earlier = h.earlier;
  there = h.there;
  before = h.before;
  acting = so h.earlier.path t.thread h.acting;
  more = h.more;
  is = h.is;
}

pub tried_if : (P Q : List ℕ → ℕ → Type 0) (count : ℕ) → ((path : List ℕ) (u : ℕ) → P path u → Q path u) →
    HasTried P count →
    HasTried Q count
tried_if P Q count so h = record {
  tried = h.tried;
  many = h.many;
  are = record {
    first = h.are.first;
    on = λ at t here past. goes_on_if P Q so h.tried at t (h.are.on at t here past);
    once = h.are.once;
  };
}

-- the same states, by what acts and what leads to them
pub objects_if : (A B : List ℕ → ℕ → Type 0) (P Q : List ℕ → Configuration → Type 0) (states most : ℕ) →
    ((path : List ℕ) (u : ℕ) → A path u → B path u) →
    ((path : List ℕ) (c : Configuration) → P path c → Q path c) →
    HaveObjects A P states most →
    HaveObjects B Q states most
unfolding tried_if
objects_if A B P Q states most acts so h = record {
  schedules = tried_if A B states acts h.schedules;
  kept = h.kept;
  many = h.many;
  reached = λ at t c tried here. so t.path c (h.reached at t c tried here);
  more = h.more;
}

nothing : (at : ℕ) (t : Tried) → slice_get [] at ≡ Some t → ⊥
nothing at t here = cc

-- ---- the schedules

module _ {S : Type 0} (first : S) (next : S → Event → S) (file : File) (program : Program) (hides : HidesNames next)
    (root : Noticed S) (states : List (Noticed S)) (edges : List Edge) (places : List ℕ)
    (led : AreEdges (GoesTo first next file program) states edges) (begins : slice_get states 0 ≡ Some root)
    (found : AreFound edges (length states) places) (once : AreOnce edges) where
  abbrev After : Noticed S → List ℕ → Noticed S
  After p ts = fold (noticed_after first next file program) p ts

  abbrev Acts : List ℕ → ℕ → Type 0
  Acts path u = IsActing (stride file (After root path).configuration u).did

  -- it goes on by the edge that found the state
  record IsBy (at : ℕ) (s : Tried) : Type 0 where
    place : ℕ
    edge : Edge
    here : slice_get edges place ≡ Some edge
    to : edge.to ≡ at
    before : s.before ≡ edge.from
    by : s.thread ≡ edge.actor

  -- the one at a place leads to the state there
  record Leads (tried : List Tried) (at : ℕ) (s : Tried) : Type 0 where
    state : Noticed S
    here : slice_get states at ≡ Some state
    like : IsLike state (After root s.path)
    none : at ≡ 0 → s.path ≡ []
    by : 0 < at → IsBy at s
    on : 0 < at → GoesOn Acts tried at s

  record Lead (count : ℕ) : Type 0 where
    tried : List Tried
    many : length tried ≡ count
    are : (at : ℕ) (s : Tried) → slice_get tried at ≡ Some s → Leads tried at s

  on_stays : (tried more : List Tried) (at : ℕ) (s : Tried) → Keeps tried more → GoesOn Acts tried at s →
      GoesOn Acts more at s
  on_stays tried more at s keeps h = record {
    earlier = h.earlier;
    there = keeps s.before h.earlier h.there;
    before = h.before;
    acting = h.acting;
    more = h.more;
    is = h.is;
  }

  leads_stay : (tried more : List Tried) (at : ℕ) (s : Tried) → Keeps tried more → Leads tried at s → Leads more at s
  leads_stay tried more at s keeps h = record {
    state = h.state;
    here = h.here;
    like = h.like;
    none = h.none;
    by = h.by;
    on = λ past. on_stays tried more at s keeps (h.on past);
  }

  -- one more schedule
  lead_more : (count : ℕ) (l : Lead count) (s : Tried) → Leads (l.tried ++ s ∷ []) count s → Lead (suc count)
  lead_more count l s h = record {
    tried = l.tried ++ s ∷ [];
    many = omega (arith, length-append l.tried (s ∷ []), l.many);
    are = λ at r here. by_place at r (pushed_where l.tried s at r here);
  }
    where
      by_place : (at : ℕ) (r : Tried) → (slice_get l.tried at ≡ Some r) ⊎ ((at ≡ length l.tried) × (s ≡ r)) →
          Leads (l.tried ++ s ∷ []) at r
      by_place at r (inl here) =
          leads_stay l.tried (l.tried ++ s ∷ []) at r (keeps_pushed l.tried s) (l.are at r here)
      by_place at r (inr (last, same)) =
          let is : count ≡ at = sym (last ∙ l.many) in
          subst (λ (x : Tried). Leads (l.tried ++ s ∷ []) at x) same
          (subst (λ (k : ℕ). Leads (l.tried ++ s ∷ []) k s) is h)

  -- the first
  first_lead : Lead 0 → Lead 1
  first_lead l = lead_more 0 l (record { before = 0; thread = 0; path = [] }) (record {
    state = root;
    here = begins;
    like = like_same root root refl;
    none = λ e. refl;
    by = λ past. absurd (omega (arith, past));
    on = λ past. absurd (omega (arith, past));
  })

  -- one that goes on from an earlier one
  module _ (k : ℕ) (within : suc k < length states) (l : Lead (suc k)) where
    found_at : (place : ℕ) × (slice_get places k ≡ Some place)
    found_at = there places k (omega (arith, found.many, within))

    is_by : IsFoundBy edges (k + 1) found_at.0
    is_by = found.each k found_at.0 found_at.1

    e : Edge
    e = is_by.edge

    goes : IsEdge (GoesTo first next file program) states is_by.edge
    goes = led found_at.0 is_by.edge is_by.here

    earlier : is_by.edge.from < suc k
    earlier = omega (arith, is_by.earlier)

    to_is : is_by.edge.to ≡ suc k
    to_is = omega (arith, is_by.to_is)

    old : (r : Tried) × (slice_get l.tried is_by.edge.from ≡ Some r)
    old = there l.tried is_by.edge.from (omega (arith, earlier, l.many))

    old_leads : Leads l.tried is_by.edge.from old.0
    old_leads = l.are is_by.edge.from old.0 old.1

    old_is : goes.one ≡ old_leads.state
    old_is = some_is (sym goes.here ∙ old_leads.here)

    reps : List ℕ
    reps = replicate (is_by.edge.mark + 1) is_by.edge.actor

    like : IsLike goes.other (After root (old.0.path ++ replicate (is_by.edge.mark + 1) is_by.edge.actor))
    like =
        let along : List ℕ = replicate (is_by.edge.mark + 1) is_by.edge.actor in
        let one : IsLike goes.other (After old_leads.state (replicate (is_by.edge.mark + 1) is_by.edge.actor)) =
        subst (λ (x : Noticed S). IsLike goes.other (After x (replicate (is_by.edge.mark + 1) is_by.edge.actor))) old_is
        (edge_like first next file program hides states edges led is_by.edge goes) in
        subst (IsLike goes.other) (sym (fold-append (noticed_after first next file program) root old.0.path along))
        (like_both goes.other (After old_leads.state along) (After (After root old.0.path) along) one
        (like_fold first next file program hides old_leads.state (After root old.0.path) old_leads.like along))

    acting : Acts old.0.path is_by.edge.actor
    acting =
        acting_other file old_leads.state.configuration (After root old.0.path).configuration old_leads.like.other
        is_by.edge.actor
        (subst (λ (x : Noticed S). IsActing (stride file x.configuration is_by.edge.actor).did) old_is goes.leads.acts)

    next_lead : Lead (suc (suc k))
    next_lead =
        lead_more (suc k) l (record {
          before = is_by.edge.from;
          thread = is_by.edge.actor;
          path = old.0.path ++ replicate (is_by.edge.mark + 1) is_by.edge.actor;
        }) (record {
          state = goes.other;
          here = ap (slice_get states) (sym to_is) ∙ goes.there;
          like = like;
          none = λ e. absurd (omega (arith, e));
          by = λ past. record {
            place = found_at.0;
            edge = is_by.edge;
            here = is_by.here;
            to = to_is;
            before = refl;
            by = refl;
          };
          on = λ past. record {
            earlier = old.0;
            there = keeps_pushed l.tried _ is_by.edge.from old.0 old.1;
            before = earlier;
            acting = acting;
            more = is_by.edge.mark;
            is = refl;
          };
        })

  leads : (count : ℕ) → count ≤ length states → Lead count
  leads zero few = record { tried = []; many = refl; are = λ at s here. absurd (nothing at s here) }
  leads (suc zero) few = first_lead (leads zero (omega arith))
  leads (suc (suc k)) few = next_lead k (omega (arith, few)) (leads (suc k) (omega (arith, few)))

  all : Lead (length states)
  all = leads (length states) (omega arith)

  pub has_tried : HasTried Acts (length states)
  has_tried = record {
    tried = all.tried;
    many = all.many;
    are = record {
      first = λ s here. (all.are 0 s here).none refl;
      on = λ at s here past. (all.are at s here).on past;
      once = λ j k r s at here past later before thread.
          let m = (all.are j r at).by past in
          let n = (all.are k s here).by later in
          let same : m.place ≡ n.place =
          once m.place n.place m.edge n.edge m.here n.here (sym m.before ∙ before ∙ n.before)
          (sym m.by ∙ thread ∙ n.by) in
          sym m.to
          ∙ ap (λ (x : Edge). x.to) (some_is (sym m.here ∙ ap (slice_get edges) same ∙ n.here))
          ∙ n.to;
    };
  }

  -- the schedule at a place leads to the state there
  pub tried_like : (at : ℕ) (s : Tried) (p : Noticed S) → slice_get has_tried.tried at ≡ Some s →
      slice_get states at ≡ Some p →
      IsLike p (After root s.path)
  unfolding all has_tried
  tried_like at s p here state =
      let l : Leads all.tried at s = all.are at s here in
      subst (λ (x : Noticed S). IsLike x (After root s.path)) (some_is (sym l.here ∙ state)) l.like
