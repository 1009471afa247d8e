-- Paths as links, one by one.
use Rattle.std.proofs.Common.{◌≡◌, ℕ, zero, suc, ◌+◌, ◌<◌, ◌≤◌, List, [], ◌∷◌, ◌++◌, length, length-append, Some}
use Rattle.std.proofs.Common.{refl, sym, ap, ◌∙◌, arith, slice_get, get_or}
use Rattle.std.proofs.lemmas.Option.{slice_get-get_or, slice_get_past}
use Rattle.std.proofs.lemmas.List.Sums.{fold-append}
use Rattle.std.specs.List.{fold}
use Rattle.ls_preservation.proofs.Lists.{get_end, get_left, get_there, index_there}
use Rattle.ls_explore.specs.declared.links.Link.{Link}
use Rattle.ls_explore.specs.Paths.{linked, longer, paths_of}

length-fold : (paths : List (List ℕ)) (links : List Link) →
    length (fold linked paths links) ≡ length paths + length links
length-fold paths [] = omega arith
length-fold paths (l ∷ ls) =
    let last : List (List ℕ) = longer (slice_get paths l.before) l.thread ∷ [] in
    omega (arith, length-fold (linked paths l) ls, length-append paths last)

-- there are as many paths as links
pub length-paths : (links : List Link) → length (paths_of links) ≡ length links
unfolding paths_of
length-paths links = omega (arith, length-fold [] links)

-- there is a path at each place
pub path_there : (links : List Link) (at : ℕ) →
    at < length links →
    slice_get (paths_of links) at ≡ Some (get_or (paths_of links) at [])
path_there links at lt = slice_get-get_or (paths_of links) at [] (omega (arith, length-paths links))

-- the same by the slice that it is taken of
pub path_is : (links slice : List Link) (at : ℕ) (path : List ℕ) →
    at < length links →
    slice ≡ links →
    path ≡ get_or (paths_of slice) at [] →
    slice_get (paths_of links) at ≡ Some path
path_is links slice at path lt same is =
    path_there links at lt ∙ ap Some (sym (is ∙ ap (λ (l : List Link). get_or (paths_of l) at []) same))

-- one link more
pub paths_more : (old new : List Link) (link : Link) (at thread : ℕ) →
    new ≡ old ++ link ∷ [] →
    link ≡ record { before = at; thread = thread } →
    at < length old →
    paths_of new ≡ paths_of old ++ (get_or (paths_of old) at [] ++ thread ∷ []) ∷ []
unfolding paths_of
paths_more old new link at thread more is lt =
    ap (fold linked []) more ∙ fold-append linked [] old (link ∷ [])
    ∙ ap (λ (l : Link). paths_of old ++ longer (slice_get (paths_of old) l.before) l.thread ∷ []) is
    ∙ ap (λ o. paths_of old ++ longer o thread ∷ []) (path_there old at lt)

-- the first link alone
pub paths_first : (links : List Link) (link : Link) →
    links ≡ [] ++ link ∷ [] →
    link ≡ record { before = 0; thread = 0 } →
    paths_of links ≡ [] ∷ []
unfolding paths_of
paths_first links link more is = ap (fold linked []) more ∙ ap (λ l. fold linked [] (l ∷ [])) is

stays : (paths : List (List ℕ)) (links : List Link) (k : ℕ) →
    k < length paths →
    slice_get (fold linked paths links) k ≡ slice_get paths k
stays paths [] k lt = refl
stays paths (l ∷ ls) k lt =
    let last : List (List ℕ) = longer (slice_get paths l.before) l.thread ∷ [] in
    stays (linked paths l) ls k (omega (arith, lt, length-append paths last)) ∙ get_left paths last k lt

-- how a path was made: of those before it, which are the first of all
record IsMade (paths : List (List ℕ)) (at : ℕ) (link : Link) : Type 0 where
  first : List (List ℕ)
  count : length first ≡ at
  same : (k : ℕ) → k < at → slice_get paths k ≡ slice_get first k
  is : slice_get paths at ≡ Some (longer (slice_get first link.before) link.thread)

made : (paths : List (List ℕ)) (links : List Link) (k at : ℕ) (link : Link) →
    slice_get links k ≡ Some link →
    at ≡ length paths + k →
    IsMade (fold linked paths links) at link
made paths [] k at link there e = absurd cc
made paths (l ∷ ls) zero at link there e =
    let same : l ≡ link = cc in
    let count : length paths ≡ at = omega arith in
    let last : List ℕ = longer (slice_get paths l.before) l.thread in
    record {
      first = paths;
      count = count;
      same = λ k lt. stays paths (l ∷ ls) k (omega arith);
      is =
          stays (linked paths l) ls at (omega (arith, length-append paths (last ∷ [])))
          ∙ get_end paths at last (sym count)
          ∙ ap (λ (x : Link). Some (longer (slice_get paths x.before) x.thread)) same;
    }
made paths (l ∷ ls) (suc k) at link there e =
    made (linked paths l) ls k at link there
    (omega (arith, length-append paths (longer (slice_get paths l.before) l.thread ∷ [])))

-- the path of a link that leads to an earlier place
pub path_on : (links : List Link) (at : ℕ) (link : Link) →
    slice_get links at ≡ Some link →
    link.before < at →
    get_or (paths_of links) at [] ≡ get_or (paths_of links) link.before [] ++ link.thread ∷ []
unfolding paths_of
path_on links at link there lt =
    let h : IsMade (paths_of links) at link = made [] links at at link there (omega arith) in
    let f = get_there h.first link.before (omega (arith, h.count)) in
    let here : get_or (paths_of links) link.before [] ≡ f.0 =
    index_there (paths_of links) link.before f.0 [] (h.same link.before lt ∙ f.1) in
    index_there (paths_of links) at (f.0 ++ link.thread ∷ []) [] (h.is ∙ ap (λ o. Some (longer o link.thread)) f.1)
    ∙ ap (λ p. p ++ link.thread ∷ []) (sym here)

-- and of one that leads to none
pub path_none : (links : List Link) (at : ℕ) (link : Link) →
    slice_get links at ≡ Some link →
    at ≤ link.before →
    get_or (paths_of links) at [] ≡ []
unfolding paths_of
path_none links at link there le =
    let h : IsMade (paths_of links) at link = made [] links at at link there (omega arith) in
    index_there (paths_of links) at [] []
    (h.is ∙ ap (λ o. Some (longer o link.thread)) (slice_get_past h.first link.before (omega (arith, h.count))))
