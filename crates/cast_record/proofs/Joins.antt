-- One line more of what is joined.
use Rattle.std.proofs.Common.{◌≡◌, ℕ, Bool, true, false, cond, not, ◌&&◌, ◌||◌, List, [], ◌∷◌, ◌++◌}
use Rattle.std.proofs.Common.{refl, sym, ap, ◌∙◌}
use Rattle.std.specs.List.{list_any}
use Rattle.std.proofs.lemmas.List.{append-nil, append_assoc}
use Rattle.cast_record.specs.declared.joined.Part.{Part}
use Rattle.cast_record.specs.declared.joined.Joined.{Joined}
use Rattle.cast_record.specs.Lines.{is_domain}
use Rattle.cast_record.specs.Parts.{Line, IsOf, events_in, is_over, progress_of, behind}
use Rattle.cast_record.specs.Parts.{is_taken_behind, shown, shown_at, shown_behind, part_of, text_of}
use Rattle.cast_record.proofs.Progresses.{any_push, progress_push, events_so_far}

shown_by : (o p q : Bool) (t : List ℕ) → (o ≡ false → p ≡ q) → cond (not o && p) t [] ≡ cond (not o && q) t []
shown_by true p q t same = refl
shown_by false p q t same = ap (λ b. cond b t []) (same refl)

shown_same : (part : Part) (lines : List Line) (l : Line) → shown_at part (progress_of part lines) l ≡ shown part lines l
shown_same part lines l =
    shown_by (is_over part lines) (is_taken_behind part (progress_of part lines).events l) (is_taken_behind part (events_in lines) l) l.text
    (λ on. ap (λ n. is_taken_behind part n l) (events_so_far part lines on))

shown_push : (part : Part) (before lines : List Line) (l : Line) →
    shown_behind part before (lines ++ l ∷ []) ≡ shown_behind part before lines ++ shown part (before ++ lines) l ∷ []
shown_push part before [] l = ap (λ b. shown part b l ∷ []) (sym (append-nil before))
shown_push part before (k ∷ lines) l =
    ap (λ s. shown part before k ∷ s)
    (shown_push part (before ++ k ∷ []) lines l
    ∙ ap (λ b. shown_behind part (before ++ k ∷ []) lines ++ shown part b l ∷ []) (append_assoc before (k ∷ []) lines))

text_push : (ts : List (List ℕ)) (t : List ℕ) → text_of (ts ++ t ∷ []) ≡ (text_of ts ++ t) ++ 10 ∷ []
text_push [] t = refl
text_push (x ∷ ts) t =
    ap (λ r. x ++ (10 ∷ r)) (text_push ts t)
    ∙ sym (append_assoc x (10 ∷ (text_of ts ++ t)) (10 ∷ []))
    ∙ ap (λ r. r ++ 10 ∷ []) (sym (append_assoc x (10 ∷ text_of ts) t))

pub joined_push : (old new : Joined) (lines : List Line) (l : Line) (s : List ℕ) → IsOf old lines → new.part ≡ old.part
    → s ≡ shown_at old.part old.progress l
    → new.text.items ≡ (old.text.items ++ s) ++ 10 ∷ []
    → new.has_domain ≡ (old.has_domain || is_domain s)
    → new.progress ≡ behind old.part.until l.text old.progress
    → IsOf new (lines ++ l ∷ [])
joined_push old new lines l s is part shows text has progress =
    let same : s ≡ shown old.part lines l =
    shows ∙ ap (λ p. shown_at old.part p l) is.progress ∙ shown_same old.part lines l in
    let parts : part_of new.part (lines ++ l ∷ []) ≡ part_of old.part lines ++ s ∷ [] =
    ap (λ p. part_of p (lines ++ l ∷ [])) part
    ∙ shown_push old.part [] lines l
    ∙ ap (λ t. part_of old.part lines ++ t ∷ []) (sym same) in
    record {
      text =
          text
          ∙ ap (λ t. (t ++ s) ++ 10 ∷ []) is.text
          ∙ sym (text_push (part_of old.part lines) s)
          ∙ sym (ap text_of parts);
      has_domain =
          has
          ∙ ap (λ b. b || is_domain s) is.has_domain
          ∙ sym (any_push is_domain (part_of old.part lines) s)
          ∙ sym (ap (λ ts. list_any is_domain ts) parts);
      progress =
          progress
          ∙ ap (λ p. behind old.part.until l.text p) is.progress
          ∙ progress_push old.part lines l
          ∙ ap (λ p. progress_of p (lines ++ l ∷ [])) (sym part);
    }
