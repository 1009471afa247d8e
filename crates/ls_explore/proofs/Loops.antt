-- What the loops of the search keep.
use Rattle.std.proofs.Common.{◌≡◌, ℕ, ◌+◌, ◌<◌, List, [], ◌∷◌, ◌++◌, length, length-append, Option, Some, refl, sym, ap}
use Rattle.std.proofs.Common.{◌∙◌, subst, arith, slice_get, get_or}
use Rattle.std.specs.Prelude.{IfSome}
use Rattle.ls_code.specs.Machine.{Machine, loaded, machine_run}
use Rattle.ls_code.specs.declared.step.Did.{Did}
use Rattle.ls_preservation.specs.Acting.{first_did}
use Rattle.ls_preservation.proofs.Lists.{index_there}
use Rattle.ls_explore.specs.Walks.{root_of, walked}
use Rattle.ls_explore.specs.Searches.{AllAct, Grows, IsClosedTo, IsSeen, IsSound, Leads, seen_with}
use Rattle.ls_explore.specs.declared.searching.Seen.{Seen}
use Rattle.ls_explore.proofs.Closing.{acts_first, closed_path, closed_thread, grows_at, grows_longer, index_get}
use Rattle.ls_explore.proofs.Closing.{sound_grown, sound_more}
use Rattle.ls_explore.proofs.Walks.{walked_none}
use Rattle.ls_explore.proofs.Seeing.{seen_more}

-- two machines that have kept their code and cells
pub record AreKept (walker other walker' other' : Machine) : Type 0 where
  pub walker_code : walker'.code ≡ walker.code
  pub walker_cells : walker'.cells.limit ≡ walker.cells.limit
  pub other_code : other'.code ≡ other.code
  pub other_cells : other'.cells.limit ≡ other.cells.limit

pub kept_more : (walker other w o w' o' : Machine) →
    AreKept walker other w o →
    w'.code ≡ w.code →
    w'.cells.limit ≡ w.cells.limit →
    o'.code ≡ o.code →
    o'.cells.limit ≡ o.cells.limit →
    AreKept walker other w' o'
kept_more walker other w o w' o' h wc wl oc ol = record {
  walker_code = wc ∙ h.walker_code;
  walker_cells = wl ∙ h.walker_cells;
  other_code = oc ∙ h.other_code;
  other_cells = ol ∙ h.other_cells;
}

pub root_same : (m m' : Machine) (setup : List ℕ) →
    m'.code ≡ m.code →
    m'.cells.limit ≡ m.cells.limit →
    root_of m' setup ≡ root_of m setup
root_same m m' setup code cells = ap (λ p. machine_run (loaded p m'.cells.limit) setup) code ∙
    ap (λ n. machine_run (loaded m.code n) setup) cells

-- What stands before each thread that is looked at after the path at a place: what was seen of those before it, and
-- that they lead to machines that the paths lead to.
pub record IsOn (n threads : ℕ) (root : Machine) (paths : List (List ℕ)) (known : List Seen) (at thread : ℕ)
    (s : Seen) : Type 0 where
  pub there : at < length paths
  pub sound : IsSound n threads root paths known
  pub closed : IsClosedTo n threads root paths at thread
  pub seen : IsSeen n thread (walked n root (get_or paths at [])) s

-- one thread more
pub on_more : (n threads : ℕ) (root : Machine) (old new : List (List ℕ)) (known : List Seen) (at thread : ℕ)
    (seen : Seen) (d : Did) →
    IsOn n threads root old known at thread seen →
    Grows old new →
    (AllAct n root old → AllAct n root new) →
    Leads n root new (get_or old at []) thread →
    d ≡ first_did n (walked n root (get_or old at [])) thread →
    IsOn n threads root new known at (thread + 1) (seen_with seen d)
on_more n threads root old new known at thread seen d h grows acts leads is =
    let here : slice_get old at ≡ Some (get_or old at []) = index_get old at [] (get_or old at []) h.there refl in
    let now : slice_get new at ≡ Some (get_or old at []) = grows_at n threads root old new at grows h.there ∙ here in
    let same : get_or new at [] ≡ get_or old at [] = index_there new at (get_or old at []) [] now in
    record {
      there = omega (arith, h.there, grows_longer n threads root old new grows);
      sound = sound_grown n threads root old new known grows acts h.sound;
      closed = closed_thread n threads root old new at thread (get_or old at []) h.there here h.closed grows leads;
      seen = subst (λ p. IsSeen n (thread + 1) (walked n root p) (seen_with seen d)) (sym same)
          (seen_more n thread (walked n root (get_or old at [])) seen d is h.seen);
    }

-- the same as it is looked at, from a machine that has kept its code and cells
of_some : {A : Type 0} (P : A → Type 0) (o : Option A) (a : A) → o ≡ Some a → IfSome o P → P a
of_some P o a is h = subst (λ x. IfSome x P) is h

module _ (n threads : ℕ) (root root' : Machine) (same : root' ≡ root) (old new : List (List ℕ))
    (known known' : List Seen) (stays : known' ≡ known) (grows : Grows old new)
    (acts : AllAct n root' old → AllAct n root' new) where
  pub on_looked : (at thread : ℕ) (seen seen' : Seen) (o : Option Did) (d : Did) →
      IsOn n threads root old known at thread seen →
      seen' ≡ seen_with seen d →
      o ≡ Some d →
      IfSome o (λ e. Leads n root' new (get_or old at []) thread) →
      IfSome o (λ e. e ≡ first_did n (walked n root' (get_or old at [])) thread) →
      IsOn n threads root new known' at (thread + 1) seen'
  on_looked at thread seen seen' o d h with_more is leads first =
      let before : IsOn n threads root' old known at thread seen = subst
      (λ r. IsOn n threads r old known at thread seen) (sym same) h in
      let led : Leads n root' new (get_or old at []) thread = of_some (λ e. Leads n root' new (get_or old at []) thread)
      o d is leads in
      let did_first : d ≡ first_did n (walked n root' (get_or old at [])) thread = of_some
      (λ e. e ≡ first_did n (walked n root' (get_or old at [])) thread) o d is first in
      let after : IsOn n threads root' new known at (thread + 1) (seen_with seen d) = on_more n threads root' old new
      known at thread seen d before grows acts led did_first in
      subst (λ s. IsOn n threads root new known' at (thread + 1) s) (sym with_more)
      (subst (λ ks. IsOn n threads root new ks at (thread + 1) (seen_with seen d)) (sym stays)
      (subst (λ r. IsOn n threads r new known at (thread + 1) (seen_with seen d)) same after))

  pub sound_looked : IsSound n threads root old known → IsSound n threads root new known'
  sound_looked h =
      let before : IsSound n threads root' old known = subst (λ r. IsSound n threads r old known) (sym same) h in
      subst (λ ks. IsSound n threads root new ks) (sym stays)
      (subst (λ r. IsSound n threads r new known) same (sound_grown n threads root' old new known grows acts
      before))

-- after the last thread
module _ (n threads : ℕ) (root : Machine) (paths : List (List ℕ)) (known all : List Seen) (at thread : ℕ) (seen : Seen)
    (last : thread ≡ threads) (h : IsOn n threads root paths known at thread seen) (more : all ≡ known ++ seen ∷ [])
    (count : length known ≡ at) where
  pub end_sound : IsSound n threads root paths all
  end_sound =
      sound_more n threads root paths known all at (get_or paths at []) seen more count
      (index_get paths at [] (get_or paths at []) h.there refl) h.sound
      (subst (λ t. IsSeen n t (walked n root (get_or paths at [])) seen) last h.seen)

  pub end_count : length all ≡ at + 1
  end_count = omega (arith, ap length more, length-append known (seen ∷ []), count)

  pub end_closed : IsClosedTo n threads root paths (at + 1) 0
  end_closed = closed_path n threads root paths at (subst (λ t. IsClosedTo n threads root paths at t) last h.closed)

-- before the first path
pub sound_first : (n threads : ℕ) (root : Machine) (paths : List (List ℕ)) (seen : List Seen) →
    paths ≡ [] ∷ [] →
    seen ≡ [] →
    IsSound n threads root paths seen
sound_first n threads root paths seen e none = record {
  first = ap (λ ps. slice_get ps 0) e;
  acts = acts_first n threads root paths e (walked_none n root);
  few = omega (arith, ap length none);
  known = λ j p s there at. absurd (no_seen j s (ap (λ l. slice_get l j) (sym none) ∙ at));
}
  where
    no_seen : (j : ℕ) (s : Seen) → slice_get [] j ≡ Some s → ⊥
    no_seen j s at = cc
