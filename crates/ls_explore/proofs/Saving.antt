-- What was saved of the machines to which paths lead.
use Rattle.std.proofs.Common.{◌≡◌, ℕ, ◌<◌, List, [], ◌∷◌, ◌++◌, length, map, Some, sym, ap, ◌∙◌, arith, slice_get}
use Rattle.std.proofs.Common.{get_or}
use Rattle.std.specs.Prelude.{Contains}
use Rattle.std.proofs.lemmas.List.{map-append, length-map}
use Rattle.ls_code.specs.Code.{Code}
use Rattle.ls_code.specs.Machine.{Machine}
use Rattle.ls_machine.specs.Saved.{Standing, standing, standing_so}
use Rattle.ls_preservation.proofs.Lists.{get_there, get_map}
use Rattle.ls_explore.specs.Searches.{AreSaved, paths_of}
use Rattle.ls_explore.specs.Walks.{led_to, walked}
use Rattle.ls_explore.specs.declared.links.Link.{Link}
use Rattle.ls_explore.proofs.Closing.{index_get, there_at}
use Rattle.ls_explore.proofs.Paths.{length-paths}

some_is : {A : Type 0} {x y : A} → Some x ≡ Some y → x ≡ y
some_is h = cc

-- a machine is its code and what stands of it
pub standing_is : (m m' : Machine) → m.code ≡ m'.code → standing m ≡ standing m' → m ≡ m'
standing_is m m' code same = ap (λ (p : Code). standing_so (record m { code = p }) (standing m)) code ∙
    ap (standing_so m') same

-- a machine that stands as one to which a path leads is that one
pub stood : (old new m : Machine) (s : Standing) →
    new ≡ standing_so old s →
    s ≡ standing m →
    old.code ≡ m.code →
    new ≡ m
stood old new m s is same code = is ∙ ap (standing_so old) same ∙
    ap (λ (p : Code). standing_so (record old { code = p }) (standing m)) code

module _ (n : ℕ) (root : Machine) where
  -- a machine that was saved is one of those to which the paths lead
  pub there_saved : (paths : List (List ℕ)) (saved : List Standing) (m : Machine) →
      ((path : List ℕ) → (walked n root path).code ≡ m.code) →
      AreSaved n root paths saved →
      Contains saved (standing m) →
      Contains (led_to n root paths) m
  there_saved paths saved m code are h =
      let at : slice_get saved h.0 ≡ Some (standing m) = index_get saved h.0 (standing m) (standing m) h.1 h.2 in
      let within : h.0 < length paths = omega (
        arith,
        h.1,
        ap length are,
        length-map paths (λ (path : List ℕ). standing (walked n root path)),
      ) in
      let f = get_there paths h.0 within in
      let of_map : slice_get saved h.0 ≡ Some (standing (walked n root f.0)) =
      ap (λ (l : List Standing). slice_get l h.0) are ∙ get_map (λ (path : List ℕ). standing (walked n root path)) paths
      h.0 f.0 f.1 in
      let is : walked n root f.0 ≡ m = standing_is (walked n root f.0) m (code f.0) (some_is (sym of_map ∙ at)) in
      there_at (led_to n root paths) h.0 m (get_map (walked n root) paths h.0 f.0 f.1 ∙ ap Some is)

  -- what was saved at a place
  pub saved_at : (paths : List (List ℕ)) (saved : List Standing) (k : ℕ) (path : List ℕ) (s : Standing) →
      AreSaved n root paths saved →
      slice_get paths k ≡ Some path →
      slice_get saved k ≡ Some s →
      s ≡ standing (walked n root path)
  saved_at paths saved k path s are there at =
      some_is (sym at ∙ ap (λ (l : List Standing). slice_get l k) are ∙
      get_map (λ (p : List ℕ). standing (walked n root p)) paths k path there)

  -- one path more
  pub saved_more : (old new : List (List ℕ)) (olds news : List Standing) (p : List ℕ) (s : Standing) →
      AreSaved n root old olds →
      new ≡ old ++ p ∷ [] →
      news ≡ olds ++ s ∷ [] →
      s ≡ standing (walked n root p) →
      AreSaved n root new news
  saved_more old new olds news p s are more mores is =
      mores ∙ ap (λ (l : List Standing). l ++ s ∷ []) are
      ∙ ap (λ (x : Standing). map (λ (path : List ℕ). standing (walked n root path)) old ++ x ∷ []) is
      ∙ sym (map-append (λ (path : List ℕ). standing (walked n root path)) old (p ∷ []))
      ∙ ap (map (λ (path : List ℕ). standing (walked n root path))) (sym more)

  -- as many were saved as there are paths
  pub saves_within : (paths : List Link) (saved : List Standing) (at : ℕ) →
      AreSaved n root (paths_of paths) saved →
      at < length paths →
      at < length saved
  saves_within paths saved at are lt =
      omega (
        arith,
        lt,
        ap length are,
        length-map (paths_of paths) (λ (path : List ℕ). standing (walked n root path)),
        length-paths paths,
      )

  -- what was saved at the place of a path
  pub saved_there : (paths : List Link) (saved : List Standing) (at : ℕ) (path : List ℕ) (s : Standing) →
      AreSaved n root (paths_of paths) saved →
      at < length paths →
      slice_get (paths_of paths) at ≡ Some path →
      s ≡ get_or saved at s →
      s ≡ standing (walked n root path)
  saved_there paths saved at path s are lt there is =
      saved_at (paths_of paths) saved at path s are there (index_get saved at s s (saves_within paths saved at are lt)
      (sym is))
