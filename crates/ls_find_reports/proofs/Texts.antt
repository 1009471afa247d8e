-- Texts one after another.
use Rattle.std.proofs.Common.{◌≡◌, ◌∙◌, ◌++◌, ap, append_assoc}
use Rattle.ls_family_search.specs.Judged.{Text}

-- eleven texts after another, and one more
pub one_behind : (old a b c d e f g h i j k l : Text) →
    (old ++ (a ++ (b ++ (c ++ (d ++ (e ++ (f ++ (g ++ (h ++ (i ++ (j ++ k))))))))))) ++ l ≡ old ++
    (a ++ (b ++ (c ++ (d ++ (e ++ (f ++ (g ++ (h ++ (i ++ (j ++ (k ++ l)))))))))))
one_behind old a b c d e f g h i j k l =
    append_assoc old (a ++ (b ++ (c ++ (d ++ (e ++ (f ++ (g ++ (h ++ (i ++ (j ++ k)))))))))) l ∙
    ap (λ t. old ++ t) (append_assoc a (b ++ (c ++ (d ++ (e ++ (f ++ (g ++ (h ++ (i ++ (j ++ k))))))))) l ∙
    ap (λ t. a ++ t) (append_assoc b (c ++ (d ++ (e ++ (f ++ (g ++ (h ++ (i ++ (j ++ k)))))))) l ∙
    ap (λ t. b ++ t) (append_assoc c (d ++ (e ++ (f ++ (g ++ (h ++ (i ++ (j ++ k))))))) l ∙
    ap (λ t. c ++ t) (append_assoc d (e ++ (f ++ (g ++ (h ++ (i ++ (j ++ k)))))) l ∙
    ap (λ t. d ++ t) (append_assoc e (f ++ (g ++ (h ++ (i ++ (j ++ k))))) l ∙
    ap (λ t. e ++ t) (append_assoc f (g ++ (h ++ (i ++ (j ++ k)))) l ∙
    ap (λ t. f ++ t) (append_assoc g (h ++ (i ++ (j ++ k))) l ∙
    ap (λ t. g ++ t) (append_assoc h (i ++ (j ++ k)) l ∙
    ap (λ t. h ++ t) (append_assoc i (j ++ k) l ∙
    ap (λ t. i ++ t) (append_assoc j k l))))))))))
