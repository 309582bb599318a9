-- Frames for a site, and the datagrams that carry them.
use Rattle.std.proofs.Common.{◌≡◌, ◌≢◌, ℕ, ◌+◌, ◌≤◌, ◌<◌, true≢false, not, List, [], ◌∷◌, ◌++◌, filter}
use Rattle.std.proofs.Common.{get_or, length, map, refl, sym, ap, subst, ◌∙◌, inl, inr, append_assoc, arith}
use Rattle.std.specs.Prelude.{◌==◌}
use Rattle.std.proofs.lemmas.Bool.{cases_Bool, eqb-true, eq-eqb, ne_eqb}
use Rattle.std.proofs.lemmas.List.{append-nil, length-append, length-map, map-append}
use Rattle.std.proofs.lemmas.List.Elements.{filter-append}
use Rattle.cast_types.specs.declared.names.SiteNo.{SiteNo}
use Rattle.cast_types.specs.Names.{site_eq}
use Rattle.cast_link.specs.Bundles.{IsBundle}
use Rattle.cast_link.specs.Packing.{Carry, Fits, IsCarried, IsPacked, to_site}

pub shared : (most : ℕ) (datagram : List ℕ) (frames : List (List ℕ)) → 2 ≤ length frames → Fits most frames → IsBundle datagram frames →
    IsCarried most datagram frames
shared most datagram frames several fits is =
    inr (record { several = several; bundle = is; bounded = subst (λ (l : List ℕ). length l ≤ most) (sym is.spelled) fits.bounded })

-- ---- one site

-- with whatever carries the rest, these datagrams carry all
abbrev pub CarriesOn : ℕ → List (List ℕ) → List (List ℕ) → List (List ℕ) → Type 0
CarriesOn most datagrams rest frames = (more : List (List ℕ)) → Carry most more rest → Carry most (datagrams ++ more) frames

pub one_more : (most : ℕ) (datagrams rest frames own others : List (List ℕ)) (datagram : List ℕ) → CarriesOn most datagrams rest frames →
    rest ≡ own ++ others → IsCarried most datagram own → CarriesOn most (datagrams ++ datagram ∷ []) others frames
one_more most datagrams rest frames own others datagram on are is more carry =
    subst (λ (l : List (List ℕ)). Carry most l frames) (sym (append_assoc datagrams (datagram ∷ []) more))
    (on (datagram ∷ more) (own, others, is, carry, are))

none_there : {X : Type 0} (xs : List X) → length xs ≡ 0 → xs ≡ []
none_there [] none = refl
none_there (x ∷ xs) none = absurd (omega (arith, none))

pub all_carried : (most : ℕ) (datagrams rest frames : List (List ℕ)) → CarriesOn most datagrams rest frames → length rest ≡ 0 →
    Carry most datagrams frames
all_carried most datagrams rest frames on none =
    subst (λ (l : List (List ℕ)). Carry most l frames) (append-nil datagrams) (on [] (none_there rest none))

some_carried : (most : ℕ) (datagram : List ℕ) (frames : List (List ℕ)) → IsCarried most datagram frames → 1 ≤ length frames
some_carried most datagram frames (inl alone) = omega (arith, ap length alone)
some_carried most datagram frames (inr shared) = omega (arith, shared.several)

pub few_carried : (most : ℕ) (datagrams frames : List (List ℕ)) → Carry most datagrams frames → length datagrams ≤ length frames
few_carried most [] frames carry = omega arith
few_carried most (datagram ∷ more) frames carry =
    omega (
      arith,
      some_carried most datagram carry.0 carry.2,
      few_carried most more carry.1 carry.3,
      length-append carry.0 carry.1,
      ap length carry.4,
    )

-- no frames go in no datagrams
none_carried : (most : ℕ) (datagrams : List (List ℕ)) → Carry most datagrams [] → datagrams ≡ []
none_carried most [] carry = refl
none_carried most (datagram ∷ more) carry =
    absurd (omega (arith, some_carried most datagram carry.0 carry.2, length-append carry.0 carry.1, ap length carry.4))

-- ---- several sites

-- what goes to the site of a number
abbrev to_number : ℕ → List (SiteNo × List ℕ) → List (List ℕ)
to_number n sent = map (λ d. d.1) (filter (λ d. d.0.0 == n) sent)

to_number-append : (n : ℕ) (sent more : List (SiteNo × List ℕ)) → to_number n (sent ++ more) ≡ to_number n sent ++ to_number n more
to_number-append n sent more =
    ap (λ (l : List (SiteNo × List ℕ)). map (λ d. d.1) l) (filter-append (λ d. d.0.0 == n) sent more)
    ∙ map-append (λ d. d.1) (filter (λ d. d.0.0 == n) sent) (filter (λ d. d.0.0 == n) more)

abbrev pub for_site : SiteNo → List (List ℕ) → List (SiteNo × List ℕ)
for_site s datagrams = map (λ d. (s, d)) datagrams

pub for_site-length : (s : SiteNo) (datagrams : List (List ℕ)) → length (for_site s datagrams) ≡ length datagrams
for_site-length s datagrams = length-map datagrams (λ (d : List ℕ). (s, d))

own_there : (s : SiteNo) (datagrams : List (List ℕ)) → to_number s.0 (for_site s datagrams) ≡ datagrams
own_there s [] = refl
own_there s (datagram ∷ more) = rw (eq-eqb s.0 s.0 refl) (ap (λ l. datagram ∷ l) (own_there s more))

others_there : (n : ℕ) (s : SiteNo) (datagrams : List (List ℕ)) → s.0 ≢ n → to_number n (for_site s datagrams) ≡ []
others_there n s [] differ = refl
others_there n s (datagram ∷ more) differ = rw (ne_eqb s.0 n differ) (others_there n s more differ)

abbrev left : ℕ → List (SiteNo × List ℕ) → List (SiteNo × List ℕ)
left s sent = filter (λ d. not (d.0.0 == s)) sent

own_left : (s : ℕ) (sent : List (SiteNo × List ℕ)) → to_number s (left s sent) ≡ []
own_left s [] = refl
own_left s (d ∷ ds) = elim (cases_Bool (d.0.0 == s)) [
  | inl same ↦ rw same (own_left s ds)
  | inr other ↦ rw (other, other) (own_left s ds)
]

others_left : (n s : ℕ) (sent : List (SiteNo × List ℕ)) → s ≢ n → to_number n (left s sent) ≡ to_number n sent
others_left n s [] differ = refl
others_left n s (d ∷ ds) differ = elim (cases_Bool (d.0.0 == s)) [
  | inl same ↦ rw (same, ne_eqb d.0.0 n (λ e. differ (sym (eqb-true d.0.0 s same) ∙ e))) (others_left n s ds differ)
  | inr other ↦ rw other (elim (cases_Bool (d.0.0 == n)) [
    | inl here ↦ rw here (ap (λ l. d.1 ∷ l) (others_left n s ds differ))
    | inr there ↦ rw there (others_left n s ds differ)
  ])
]

-- with whatever carries what is left for a site, what is packed for it carries all that goes there
abbrev pub PacksOn : ℕ → List (SiteNo × List ℕ) → List (SiteNo × List ℕ) → List (SiteNo × List ℕ) → Type 0
PacksOn most packed rest frames = (site : SiteNo) → CarriesOn most (to_site site packed) (to_site site rest) (to_site site frames)

pub site_packed : (most : ℕ) (packed rest frames : List (SiteNo × List ℕ)) (s : SiteNo) (datagrams : List (List ℕ)) →
    PacksOn most packed rest frames → Carry most datagrams (to_site s rest) →
    PacksOn most (packed ++ map (λ d. (s, d)) datagrams) (filter (λ f. not (site_eq f.0 s)) rest) frames
site_packed most packed rest frames s datagrams on carry site more carried = elim (cases_Bool (s.0 == site.0)) [
  | inl same ↦
      let is : s.0 ≡ site.0 = eqb-true s.0 site.0 same in
      let none : more ≡ [] =
      none_carried most more (subst (λ (l : List (List ℕ)). Carry most more l)
      (ap (λ (n : ℕ). to_number n (left s.0 rest)) (sym is) ∙ own_left s.0 rest) carried) in
      let there : to_number site.0 (for_site s datagrams) ≡ datagrams =
      ap (λ (n : ℕ). to_number n (for_site s datagrams)) (sym is) ∙ own_there s datagrams in
      let mine : Carry most datagrams (to_number site.0 rest) = subst (λ (n : ℕ). Carry most datagrams (to_number n rest)) is carry in
      let all : to_number site.0 packed ++ datagrams ≡ to_number site.0 (packed ++ for_site s datagrams) ++ more =
      ap (λ (l : List (List ℕ)). to_number site.0 packed ++ l) (sym there)
      ∙ (sym (to_number-append site.0 packed (for_site s datagrams))
      ∙ (sym (append-nil (to_number site.0 (packed ++ for_site s datagrams)))
      ∙ ap (λ (l : List (List ℕ)). to_number site.0 (packed ++ for_site s datagrams) ++ l) (sym none))) in
      subst (λ (l : List (List ℕ)). Carry most l (to_number site.0 frames)) all (on site datagrams mine)
  | inr other ↦
      let differ : s.0 ≢ site.0 = λ e. true≢false (sym (eq-eqb s.0 site.0 e) ∙ other) in
      let same : to_number site.0 packed ≡ to_number site.0 (packed ++ for_site s datagrams) =
      sym (to_number-append site.0 packed (for_site s datagrams)
      ∙ (ap (λ (l : List (List ℕ)). to_number site.0 packed ++ l) (others_there site.0 s datagrams differ)
      ∙ append-nil (to_number site.0 packed))) in
      let before : Carry most more (to_number site.0 rest) =
      subst (λ (l : List (List ℕ)). Carry most more l) (others_left site.0 s.0 rest differ) carried in
      subst (λ (l : List (List ℕ)). Carry most (l ++ more) (to_number site.0 frames)) same (on site more before)
]

pub all_packed : (most : ℕ) (packed rest frames : List (SiteNo × List ℕ)) → PacksOn most packed rest frames → length rest ≡ 0 →
    IsPacked most frames packed
all_packed most packed rest frames on none site =
    all_carried most (to_site site packed) (to_site site rest) (to_site site frames) (on site)
    (ap (λ (l : List (SiteNo × List ℕ)). length (to_site site l)) (none_there rest none))

shorter : (s : ℕ) (sent : List (SiteNo × List ℕ)) → length (left s sent) ≤ length sent
shorter s [] = omega arith
shorter s (d ∷ ds) = elim (cases_Bool (d.0.0 == s)) [
  | inl same ↦ rw same (omega (arith, shorter s ds))
  | inr other ↦ rw other (omega (arith, shorter s ds))
]

pub fewer_left : (first : SiteNo × List ℕ) (sent : List (SiteNo × List ℕ)) → 1 ≤ length sent → first ≡ get_or sent 0 first →
    length (filter (λ f. not (site_eq f.0 first.0)) sent) < length sent
fewer_left first [] some is = absurd (omega (arith, some))
fewer_left first (d ∷ ds) some is =
    rw (eq-eqb d.0.0 first.0.0 (ap (λ (e : SiteNo × List ℕ). e.0.0) (sym is))) (omega (arith, shorter first.0.0 ds))

pub parted : (s : SiteNo) (sent : List (SiteNo × List ℕ)) →
    length (to_site s sent) + length (filter (λ f. not (site_eq f.0 s)) sent) ≡ length sent
parted s [] = refl
parted s (d ∷ ds) = elim (cases_Bool (d.0.0 == s.0)) [
  | inl same ↦ rw same (omega (arith, parted s ds))
  | inr other ↦ rw other (omega (arith, parted s ds))
]
