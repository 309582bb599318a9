-- One more that is answered.
use Rattle.std.proofs.Common.{Bool, List, [], ◌∷◌, ◌++◌, Option, Some, None, ap, ◌∙◌, append_assoc, sym}
use Rattle.std.proofs.lemmas.List.{append-nil}
use Rattle.std.specs.List.{AllZip}
use Rattle.cast_pool.specs.declared.kept.Done.{Done}
use Rattle.cast_events.specs.declared.asked.Raw.{Raw}
use Rattle.cast_pool.specs.Posts.{Adds, Answers, HasAnswered}

adds_nothing : {X : Type 0} (known : Option (List X)) → Adds known known []
adds_nothing None = tt
adds_nothing (Some xs) = sym (append-nil xs)

adds_more : {X : Type 0} (a b c : Option (List X)) (xs ys : List X) → Adds a b xs → Adds b c ys → Adds a c (xs ++ ys)
adds_more None b c xs ys p q = tt
adds_more (Some x) None c xs ys p q = absurd p
adds_more (Some x) (Some y) None xs ys p q = absurd q
adds_more {X} (Some x) (Some y) (Some z) xs ys p q = q ∙ (ap (λ (l : List X). l ++ ys) p ∙ append_assoc x xs ys)

zip_push : {X Y : Type 0} (R : X → Y → Type 0) (xs : List X) (ys : List Y) (x : X) (y : Y) → AllZip R xs ys → R x y
    → AllZip R (xs ++ x ∷ []) (ys ++ y ∷ [])
zip_push R [] [] x y all one = (one, tt)
zip_push R [] (w ∷ ys) x y all one = absurd all
zip_push R (v ∷ xs) [] x y all one = absurd all
zip_push R (v ∷ xs) (w ∷ ys) x y all one = (all.0, zip_push R xs ys x y all.1 one)

pub answered_none : (may_trim : Bool) (taken : Option (List Raw)) (sent : Option (List Done)) → HasAnswered may_trim taken taken sent sent
answered_none may_trim taken sent = record { raws = []; dones = []; takes = adds_nothing taken; sends = adds_nothing sent; answers = tt }

-- one more is taken, and then what came of it is sent
pub answered_one : (may_trim : Bool) (a b c c' : Option (List Raw)) (d e f f' : Option (List Done)) (raw : Raw) (done : Done)
    → HasAnswered may_trim a b d e → Adds b c (raw ∷ []) → Adds e f [] → Answers may_trim raw done → Adds f f' (done ∷ []) → Adds c c' []
    → HasAnswered may_trim a c' d f'
answered_one may_trim a b c c' d e f f' raw done h takes quiet answers sends still =
    record {
      raws = h.raws ++ raw ∷ [];
      dones = h.dones ++ done ∷ [];
      takes = adds_more a b c' h.raws (raw ∷ []) h.takes (adds_more b c c' (raw ∷ []) [] takes still);
      sends = adds_more d e f' h.dones (done ∷ []) h.sends (adds_more e f f' [] (done ∷ []) quiet sends);
      answers = zip_push (Answers may_trim) h.raws h.dones raw done h.answers answers;
    }
