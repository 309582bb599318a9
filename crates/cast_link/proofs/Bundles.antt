-- Frames, each behind its length.
use Rattle.std.proofs.Common.{◌≡◌, ℕ, ◌+◌, ◌≤◌, ◌<◌, List, [], ◌∷◌, ◌++◌, length, take, drop}
use Rattle.std.proofs.Common.{get_or, Some, None, true, refl, sym, ap, ◌∙◌, append_assoc, arith}
use Rattle.std.specs.Prelude.{IsTrue, nat_lt}
use Rattle.std.specs.List.{flat_map}
use Rattle.std.specs.Int.{w16, to_be_bytes, from_be_bytes}
use Rattle.std.proofs.lemmas.Bool.{and_parts, and_from, lt-ltb, ltb-true}
use Rattle.std.proofs.lemmas.Nat.{from_be_bytes-to_be_bytes_2}
use Rattle.std.proofs.lemmas.List.{append-nil, length-append, length-drop, length-take-le, take-append-drop}
use Rattle.std.proofs.Math.Seq.{take-append_seam, drop-append_seam}
use Rattle.std.proofs.lemmas.List.Concat.{flat_map-append}
use Rattle.std.proofs.lemmas.List.Folds.{list_all-append}
use Rattle.cast_field.specs.Spelling.{short}
use Rattle.cast_frame.specs.Spelling.{spelled_site}
use Rattle.cast_link.specs.Laws.{BundlesAreUnique, FramesStandAlone}
use Rattle.cast_link.specs.Bundles.{in_bundle, fit, BeginsAsBundle, IsBundle, IsFirst, Splits}

-- whatever frames these bytes are, the rest are some of them
abbrev pub LeadsTo : List ℕ → List ℕ → Type 0
LeadsTo bytes rest =
    (all : List (List ℕ)) → IsTrue (fit all) → bytes ≡ flat_map in_bundle all →
    (left : List (List ℕ)) × IsTrue (fit left) × (rest ≡ flat_map in_bundle left)

-- ---- the first of some frames

length_in : (frame more : List ℕ) → length (in_bundle frame ++ more) ≡ 2 + length frame + length more
length_in frame more = omega (arith, length-append (in_bundle frame) more, length-append (to_be_bytes w16 (length frame)) frame)

-- what a length says, by the two bytes that stand there
says : (n m : ℕ) (more : List ℕ) → n < 65536 → m < 65536 → take 2 (to_be_bytes w16 m ++ more) ≡ to_be_bytes w16 n → m ≡ n
says n m more lt lt_m e = sym (from_be_bytes-to_be_bytes_2 m lt_m) ∙ (ap (from_be_bytes w16) e ∙ from_be_bytes-to_be_bytes_2 n lt)

-- the others are what stands behind it
others : (n : ℕ) (rest frame more : List ℕ) → length frame < 65536 → IsFirst rest (Some n) → rest ≡ in_bundle frame ++ more →
    drop n (drop 2 rest) ≡ more
others n rest frame more short first is =
    let there : rest ≡ to_be_bytes w16 (length frame) ++ (frame ++ more) = is ∙ append_assoc (to_be_bytes w16 (length frame)) frame more in
    let same : length frame ≡ n = says n (length frame) (frame ++ more) first.1 short (ap (take 2) (sym there) ∙ first.0) in
    ap (λ (l : List ℕ). drop n (drop 2 l)) there ∙ (ap (λ (k : ℕ). drop k (frame ++ more)) (sym same) ∙ drop-append_seam frame more)

leads_on : (n : ℕ) (rest : List ℕ) (left : List (List ℕ)) → IsFirst rest (Some n) → IsTrue (fit left) → rest ≡ flat_map in_bundle left →
    (next : List (List ℕ)) × IsTrue (fit next) × (drop n (drop 2 rest) ≡ flat_map in_bundle next)
leads_on n rest [] first fits is = absurd (omega (arith, first.2, ap length is))
leads_on n rest (frame ∷ left) first fits is =
    let parts = and_parts (nat_lt (length frame) 65536) (fit left) fits in
    (left, parts.1, others n rest frame (flat_map in_bundle left) (ltb-true (length frame) 65536 parts.0) first is)

pub led_further : (bytes rest : List ℕ) (n : ℕ) → LeadsTo bytes rest → IsFirst rest (Some n) → LeadsTo bytes (drop n (drop 2 rest))
led_further bytes rest n leads first all fits are =
    let left = leads all fits are in
    leads_on n rest left.0 first left.1 left.2

-- no frame stands there
none_there : (rest : List ℕ) (left : List (List ℕ)) → 1 ≤ length rest → IsFirst rest None → IsTrue (fit left) →
    rest ≡ flat_map in_bundle left → ⊥
none_there rest [] some first fits is = omega (arith, some, ap length is)
none_there rest (frame ∷ left) some first fits is =
    first frame (flat_map in_bundle left) (ltb-true (length frame) 65536 (and_parts (nat_lt (length frame) 65536) (fit left) fits).0) is

pub splits_none : (bytes rest : List ℕ) → LeadsTo bytes rest → 1 ≤ length rest → IsFirst rest None → Splits bytes None
splits_none bytes rest leads some first all fits are =
    let left = leads all fits are in
    none_there rest left.0 some first left.1 left.2

-- frames of the same bytes are the same
pub same_frames : (frames others : List (List ℕ)) → IsTrue (fit frames) → IsTrue (fit others) →
    flat_map in_bundle frames ≡ flat_map in_bundle others → frames ≡ others
same_frames [] [] fits fits_others same = refl
same_frames [] (other ∷ others) fits fits_others same = absurd (omega (arith, ap length same, length_in other (flat_map in_bundle others)))
same_frames (frame ∷ frames) [] fits fits_others same = absurd (omega (arith, ap length same, length_in frame (flat_map in_bundle frames)))
same_frames (frame ∷ frames) (other ∷ others) fits fits_others same =
    let parts = and_parts (nat_lt (length frame) 65536) (fit frames) fits in
    let parts_other = and_parts (nat_lt (length other) 65536) (fit others) fits_others in
    let more = flat_map in_bundle frames in
    let more_other = flat_map in_bundle others in
    let there : to_be_bytes w16 (length frame) ++ (frame ++ more) ≡ to_be_bytes w16 (length other) ++ (other ++ more_other) =
    sym (append_assoc (to_be_bytes w16 (length frame)) frame more)
    ∙ (same
    ∙ append_assoc (to_be_bytes w16 (length other)) other more_other) in
    let long : length frame ≡ length other =
    says (length other) (length frame) (frame ++ more) (ltb-true (length other) 65536 parts_other.0) (ltb-true (length frame) 65536 parts.0)
    (ap (take 2) there) in
    let behind_both : frame ++ more ≡ other ++ more_other = ap (drop 2) there in
    let first : frame ≡ other =
    sym (take-append_seam frame more)
    ∙ (ap (take (length frame)) behind_both
    ∙ (ap (λ (k : ℕ). take k (other ++ more_other)) long
    ∙ take-append_seam other more_other)) in
    let rest : more ≡ more_other =
    sym (drop-append_seam frame more)
    ∙ (ap (drop (length frame)) behind_both
    ∙ (ap (λ (k : ℕ). drop k (other ++ more_other)) long
    ∙ drop-append_seam other more_other)) in
    ap (λ (l : List (List ℕ)). frame ∷ l) (same_frames frames others parts.1 parts_other.1 rest) ∙ ap (λ (l : List ℕ). l ∷ others) first

-- ---- those that were split off

fits_behind : (rest : List ℕ) (n : ℕ) → 2 + n ≤ length rest → n ≤ length (drop 2 rest)
fits_behind rest n le = omega (arith, le, length-drop 2 rest)

-- a frame of so many bytes behind its length
taken_off : (rest : List ℕ) (n : ℕ) → IsFirst rest (Some n) → rest ≡ in_bundle (take n (drop 2 rest)) ++ drop n (drop 2 rest)
taken_off rest n first =
    let frame = take n (drop 2 rest) in
    let more = drop n (drop 2 rest) in
    let whole : n ≤ length (drop 2 rest) = fits_behind rest n first.2 in
    let same : length frame ≡ n = length-take-le n (drop 2 rest) whole in
    sym (take-append-drop 2 rest)
    ∙ (ap (λ (l : List ℕ). l ++ drop 2 rest) (first.0 ∙ ap (to_be_bytes w16) (sym same))
    ∙ (ap (λ (l : List ℕ). to_be_bytes w16 (length frame) ++ l) (sym (take-append-drop n (drop 2 rest)))
    ∙ sym (append_assoc (to_be_bytes w16 (length frame)) frame more)))

-- so many frames and the rest are these bytes
pub record HasSplit (bytes : List ℕ) (frames : List (List ℕ)) (rest : List ℕ) : Type 0 where
  pub fitting : IsTrue (fit frames)
  pub spelled : bytes ≡ flat_map in_bundle frames ++ rest

pub one_more : (bytes rest : List ℕ) (frames : List (List ℕ)) (n : ℕ) → HasSplit bytes frames rest → IsFirst rest (Some n) →
    HasSplit bytes (frames ++ take n (drop 2 rest) ∷ []) (drop n (drop 2 rest))
one_more bytes rest frames n split first =
    let frame = take n (drop 2 rest) in
    let more = drop n (drop 2 rest) in
    let same : length frame ≡ n = length-take-le n (drop 2 rest) (fits_behind rest n first.2) in
    let one : fit (frame ∷ []) ≡ true =
    and_from (nat_lt (length frame) 65536) true (lt-ltb (length frame) 65536 (omega (arith, same, first.1))) refl in
    record {
      fitting =
          list_all-append (λ f. nat_lt (length f) 65536) frames (frame ∷ []) ∙ and_from (fit frames) (fit (frame ∷ [])) split.fitting one;
      spelled =
          split.spelled
          ∙ (ap (λ (l : List ℕ). flat_map in_bundle frames ++ l) (taken_off rest n first)
          ∙ (sym (append_assoc (flat_map in_bundle frames) (in_bundle frame) more)
          ∙ ap (λ (l : List ℕ). l ++ more) (sym (flat_map-append in_bundle frames (frame ∷ [])
          ∙ ap (λ (l : List ℕ). flat_map in_bundle frames ++ l) (append-nil (in_bundle frame))))));
    }

-- ---- bundles

-- no bundle begins otherwise
behind_head : (bytes : List ℕ) (frames : List (List ℕ)) → IsBundle bytes frames → drop 4 bytes ≡ flat_map in_bundle frames
behind_head bytes frames is = ap (drop 4) is.spelled

pub without_frames : (bytes : List ℕ) → drop 4 bytes ≡ [] → (frames : List (List ℕ)) → IsBundle bytes frames → ⊥
without_frames bytes empty [] is = is.some refl
without_frames bytes empty (frame ∷ frames) is =
    omega (arith, length_in frame (flat_map in_bundle frames), ap length (sym empty ∙ behind_head bytes (frame ∷ frames) is))

pub begins : (bytes : List ℕ) (frames : List (List ℕ)) → IsBundle bytes frames → BeginsAsBundle bytes
begins bytes frames is = ap (take 2) is.spelled

pub bundles_are_unique : BundlesAreUnique
bundles_are_unique bytes frames others is is_other =
    same_frames frames others is.fitting is_other.fitting (sym (behind_head bytes frames is) ∙ behind_head bytes others is_other)

pub frames_stand_alone : FramesStandAlone
unfolding spelled_site short
frames_stand_alone domain from frame begins =
    let second : 68 ≡ 66 = ap (λ (l : List ℕ). get_or l 1 0) begins in
    absurd (omega (arith, second))
