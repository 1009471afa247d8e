-- Numbers of texts, as there are more of both.
use Rattle.std.proofs.Common.{◌≡◌, ℕ, ◌+◌, ◌<◌, List, [], ◌∷◌, ◌++◌, Some, length, take, get_or, refl, sym, ap, ◌∙◌}
use Rattle.std.specs.Prelude.{map, slice_get}
use Rattle.std.proofs.lemmas.List.{map-append, take_more}
use Rattle.ls_report.specs.Events.{Text}
use Rattle.ls_transitions.specs.Tables.{Keeps}
use Rattle.ls_page.specs.Numbers.{AreAllNumbers, AreNumbers}

head_of : {A : Type 0} (x y : A) (xs ys : List A) → x ∷ xs ≡ y ∷ ys → x ≡ y
head_of x y xs ys e = cc

tail_of : {A : Type 0} (x y : A) (xs ys : List A) → x ∷ xs ≡ y ∷ ys → xs ≡ ys
tail_of x y xs ys e = cc

-- as texts come to a table, numbers stay those of their texts
pub numbers_keep : (old new : List Text) (ns : List ℕ) (texts : List Text) → Keeps old new →
    AreNumbers old ns texts → AreNumbers new ns texts
numbers_keep old new [] [] k h = refl
numbers_keep old new [] (t ∷ ts) k h = cc
numbers_keep old new (n ∷ ns) [] k h = cc
numbers_keep old new (n ∷ ns) (t ∷ ts) k h =
    let one = k n t (head_of (slice_get old n) (Some t) (map (slice_get old) ns) (map Some ts) h) in
    let rest = numbers_keep old new ns ts k
    (tail_of (slice_get old n) (Some t) (map (slice_get old) ns) (map Some ts) h) in
    ap (λ o. o ∷ map (slice_get new) ns) one ∙ ap (λ l. Some t ∷ l) rest

-- the same of lists
pub all_keep : (old new : List Text) (ns : List (List ℕ)) (texts : List (List Text)) → Keeps old new →
    AreAllNumbers old ns texts → AreAllNumbers new ns texts
all_keep old new [] [] k h = refl
all_keep old new [] (t ∷ ts) k h = cc
all_keep old new (n ∷ ns) [] k h = cc
all_keep old new (n ∷ ns) (t ∷ ts) k h =
    let one = numbers_keep old new n t k
    (head_of (map (slice_get old) n) (map Some t) (map (map (slice_get old)) ns) (map (map Some) ts) h) in
    let rest = all_keep old new ns ts k
    (tail_of (map (slice_get old) n) (map Some t) (map (map (slice_get old)) ns) (map (map Some) ts) h) in
    ap (λ o. o ∷ map (map (slice_get new)) ns) one ∙ ap (λ l. map Some t ∷ l) rest

-- two lists that are mapped to the same, with one more item each that are
more : {A B C : Type 0} (f : A → C) (g : B → C) (xs : List A) (ys : List B) (x : A) (y : B) → f x ≡ g y →
    map f xs ≡ map g ys → map f (xs ++ x ∷ []) ≡ map g (ys ++ y ∷ [])
more f g xs ys x y e h =
    map-append f xs (x ∷ []) ∙ ap (λ l. l ++ f x ∷ []) h ∙ ap (λ z. map g ys ++ z ∷ []) e
    ∙ sym (map-append g ys (y ∷ []))

-- one more number, of the next of some items that have texts
pub numbers_more : {A : Type 0} (text : A → Text) (old new : List Text) (xs : List A) (i : ℕ) (d x : A)
    (ns ns' : List ℕ) (n : ℕ) → i < length xs → get_or xs i d ≡ x → ns' ≡ ns ++ n ∷ [] → Keeps old new →
    slice_get new n ≡ Some (text x) →
    AreNumbers old ns (map text (take i xs)) → AreNumbers new ns' (map text (take (i + 1) xs))
numbers_more text old new xs i d x ns ns' n within at e k one h =
    ap (map (slice_get new)) e
    ∙ more (slice_get new) Some ns (map text (take i xs)) n (text x) one
    (numbers_keep old new ns (map text (take i xs)) k h)
    ∙ ap (map Some) (sym (ap (map text) (take_more xs i d within ∙ ap (λ z. take i xs ++ z ∷ []) at)
    ∙ map-append text (take i xs) (x ∷ [])))

-- the same of lists
pub all_more : {A : Type 0} (texts : A → List Text) (old new : List Text) (xs : List A) (i : ℕ) (d x : A)
    (ns ns' : List (List ℕ)) (n : List ℕ) → i < length xs → get_or xs i d ≡ x → ns' ≡ ns ++ n ∷ [] → Keeps old new →
    AreNumbers new n (texts x) →
    AreAllNumbers old ns (map texts (take i xs)) → AreAllNumbers new ns' (map texts (take (i + 1) xs))
all_more texts old new xs i d x ns ns' n within at e k one h =
    ap (map (map (slice_get new))) e
    ∙ more (map (slice_get new)) (map Some) ns (map texts (take i xs)) n (texts x) one
    (all_keep old new ns (map texts (take i xs)) k h)
    ∙ ap (map (map Some)) (sym (ap (map texts) (take_more xs i d within ∙ ap (λ z. take i xs ++ z ∷ []) at)
    ∙ map-append texts (take i xs) (x ∷ [])))

pub keeps_all : {A : Type 0} (xs ys zs : List A) → Keeps xs ys → Keeps ys zs → Keeps xs zs
keeps_all xs ys zs k l n x e = l n x (k n x e)
