-- A writer that was told nothing.
use Rattle.std.proofs.Common.{◌≡◌, ℕ, List, [], sym, subst, Option, Some, None, inl}
use Rattle.std.specs.Io.KnownBytes.{Appends}
use Rattle.std.proofs.lemmas.List.{append-nil}
use Rattle.cast_device.specs.Writing.{IsTold}

appends_nothing : (known : Option (List ℕ)) → Appends known known []
appends_nothing None = tt
appends_nothing (Some bytes) = sym (append-nil bytes)

pub told_nothing : {W : Type 0} (contents : W → Option (List ℕ)) (old new : W) (Failed : Type 0) → new ≡ old →
    IsTold (contents old) (contents new) [] Failed
told_nothing contents old new Failed same =
    inl (subst (λ w. Appends (contents old) (contents w) []) (sym same) (appends_nothing (contents old)))
