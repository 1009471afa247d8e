-- Why `fill` in src/marks.rt keeps its loop `thread`.

use Rattle.std.proofs.Common.{◌≡◌, ℕ, ◌+◌, ◌<◌, List, [], ◌∷◌, ◌++◌, get_or, length, map, sym, take, ap, ◌∙◌}
use Rattle.std.proofs.lemmas.List.{map-append, take_more}
use Rattle.ls_source.specs.SeenThread.{thread_of}
use Rattle.ls_serial_search.proofs.marks.fill.Goals as goal

-- one more, which is shown as the next one is
one_more : {A B : Type 0} (f : A → B) (xs ys : List A) (i : ℕ) (x y : A) →
    i < length xs →
    map f ys ≡ map f (take i xs) →
    f y ≡ f x →
    x ≡ get_or xs i x →
    map f (ys ++ y ∷ []) ≡ map f (take (i + 1) xs)
one_more f xs ys i x y within same shown is =
    map-append f ys (y ∷ [])
    ∙ ap (λ l. l ++ f y ∷ []) same
    ∙ ap (λ z. map f (take i xs) ++ z ∷ []) (shown ∙ ap f is)
    ∙ sym (map-append f (take i xs) (get_or xs i x ∷ []))
    ∙ ap (map f) (sym (take_more xs i x within))

pub loop-thread-preserved : goal.loop-thread-preserved
loop-thread-preserved c =
    ap (map thread_of) c.in_ok-push.ensures.items
    ∙ one_more thread_of c.args.threads.now c.loop-thread.copies.items c.loop-thread.thread-index
    c.thread-item.result c.in_ok-copy.copy c.loop-thread-test.true c.loop-thread.invariant c.in_ok-copy.ensures
    c.thread-item.is
