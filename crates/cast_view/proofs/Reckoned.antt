-- What is lacking of a flush, once one more message came.
use Rattle.std.proofs.Common.{◌≡◌, ℕ, Bool, true, false, cond, List, [], ◌∷◌, ◌++◌, refl, sym, ap, ◌∙◌}
use Rattle.std.specs.Prelude.{◌||◌, not, filter}
use Rattle.std.specs.Cmp.Lexicographic.{pointwise}
use Rattle.std.proofs.lemmas.Bool.{and_parts, false≢true}
use Rattle.cast_types.specs.declared.names.GroupNo.{GroupNo}
use Rattle.cast_types.specs.declared.names.Proc.{Proc}
use Rattle.cast_types.specs.Names.{Entry, proc_eq, uid_eq, uid_in}
use Rattle.cast_types.proofs.Orders.{same_proc}
use Rattle.cast_message.specs.declared.message.Message.{Message}
use Rattle.cast_flush.specs.Reports.{needed_entries, cut_from, has_body}
use Rattle.cast_flush.proofs.Gathered.{any_append}
use Rattle.cast_view.specs.declared.phase.Phase.{Phase}
use Rattle.cast_view.specs.declared.phase.Phase.TheVariants.{Idle, Gathering, Installing}
use Rattle.cast_view.specs.Home.{phase_with_body}
use Rattle.cast_view.specs.Flush.{lacking_in}

-- what neither of two tests passes is what the second one does not pass of what the first one does not
filter_both : {A : Type 0} (p q : A → Bool) (xs : List A) →
    filter (λ x. not (p x || q x)) xs ≡ filter (λ x. not (q x)) (filter (λ x. not (p x)) xs)
filter_both p q [] = refl
filter_both p q (x ∷ xs) =
    elim (p x) as (λ b. cond (not (b || q x)) (x ∷ filter (λ y. not (p y || q y)) xs) (filter (λ y. not (p y || q y)) xs)
    ≡ filter (λ y. not (q y)) (cond (not b) (x ∷ filter (λ y. not (p y)) xs) (filter (λ y. not (p y)) xs))) [
      | true ↦ filter_both p q xs
      | false ↦ ap (λ ys. cond (not (q x)) (x ∷ ys) ys) (filter_both p q xs)
    ]

or_false : (a : Bool) → (a || false) ≡ a
or_false true = refl
or_false false = refl

module _ (g : GroupNo) (view : ℕ) (m : Message) where
  -- a message that came is there beside those that were
  one_more : (bodies : List Message) (e : Entry) →
      has_body g view (bodies ++ m ∷ []) e ≡ (has_body g view bodies e || uid_eq m.id (uid_in g view e))
  one_more bodies e =
      any_append (λ x. uid_eq x.id (uid_in g view e)) bodies (m ∷ [])
      ∙ ap (λ b. has_body g view bodies e || b) (or_false (uid_eq m.id (uid_in g view e)))

  -- with a message that came, what was lacking but for this
  pub lacking_but : (members : List Proc) (phase : Phase) → filter (λ e. not (uid_eq m.id (uid_in g view e)))
      (lacking_in g view members phase) ≡ lacking_in g view members (phase_with_body m phase)
  lacking_but members Idle = refl
  lacking_but members (Gathering awaited reports bodies) =
      sym (filter_both (has_body g view bodies) (λ e. uid_eq m.id (uid_in g view e)) (needed_entries (cut_from members reports) reports))
      ∙ sym (λ i. filter (λ e. not (one_more bodies e i)) (needed_entries (cut_from members reports) reports))
  lacking_but members (Installing waiting decision bodies) = refl

-- lists of processes that are equal one by one are equal
pub same_members : (ps qs : List Proc) → pointwise proc_eq ps qs ≡ true → ps ≡ qs
same_members [] [] same = refl
same_members [] (q ∷ qs) same = absurd (false≢true same)
same_members (p ∷ ps) [] same = absurd (false≢true same)
same_members (p ∷ ps) (q ∷ qs) same =
    let parts = and_parts (proc_eq p q) (pointwise proc_eq ps qs) same in
    λ i. same_proc p q parts.0 i ∷ same_members ps qs parts.1 i
