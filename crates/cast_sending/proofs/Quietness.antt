-- What is known of a site agrees with all that happened.
use Rattle.std.proofs.Common.{◌≡◌, ℕ, ◌≤◌, ◌<◌, ◌+◌, ◌-◌, Bool, true, false, List, [], ◌∷◌, cond, not, min, arith}
use Rattle.std.proofs.Common.{Option, Some, None, refl, sym, ap, ◌∙◌, inl, inr}
use Rattle.std.specs.Prelude.{nat_le, nat_lt, unwrap_or, ◌||◌, ◌&&◌}
use Rattle.std.specs.Option.{option_map, option_map_or}
use Rattle.std.proofs.lemmas.Bool.{cases_lt, lt-leb, le-leb, lt-ltb, le-ltb, ltb-true, ltb-false}
use Rattle.cast_sending.specs.declared.silence.Silence.{Silence}
use Rattle.cast_sending.specs.Silences.{is_silent}
use Rattle.cast_sending.specs.Quiet.{Happening, Tick, Acknowledge, Send, ticks_since, is_quiet, passed_since, FollowTheRule, IsAfter}
use Rattle.cast_sending.specs.Quiet.{SilentSitesAreSentFew}

-- as far as a `u32` counts
abbrev bounded : ℕ → ℕ
bounded n = min n 4294967295

record Agrees (happenings : List Happening) (silence : Silence) : Type 0 where
  waited : silence.waited ≡ option_map bounded (ticks_since happenings)
  room : silence.room + passed_since happenings ≡ 2
  follow : FollowTheRule happenings

quiet_at : (waited : Option ℕ) → option_map_or (nat_le 50) (option_map bounded waited) false ≡ option_map_or (nat_le 50) waited false
quiet_at None = refl
quiet_at (Some n) = elim (cases_lt n 50) [
  | inl less ↦ lt-leb 50 (bounded n) (omega (arith, less)) ∙ sym (lt-leb 50 n less)
  | inr long ↦ le-leb 50 (bounded n) (omega (arith, long)) ∙ sym (le-leb 50 n long)
]

silent_is : (happenings : List Happening) (silence : Silence) → Agrees happenings silence → is_silent silence ≡ is_quiet happenings
silent_is happenings silence agrees =
    ap (λ (w : Option ℕ). option_map_or (nat_le 50) w false) agrees.waited ∙ quiet_at (ticks_since happenings)

tick_more : (waited : Option ℕ) →
    option_map (λ n. min (n + 1) 4294967295) (option_map bounded waited) ≡ option_map bounded (option_map (λ n. n + 1) waited)
tick_more None = refl
tick_more (Some n) = ap Some (omega arith)

sent_more : (waited : Option ℕ) → Some (unwrap_or (option_map bounded waited) 0) ≡ option_map bounded (Some (unwrap_or waited 0))
sent_more None = refl
sent_more (Some n) = refl

room_left : (room passed : ℕ) → room + passed ≡ 2 → nat_lt 0 room ≡ nat_lt passed 2
room_left room passed both = elim (cases_lt passed 2) [
  | inl less ↦ lt-ltb 0 room (omega (arith, less, both)) ∙ sym (lt-ltb passed 2 less)
  | inr all ↦ le-ltb 0 room (omega (arith, all, both)) ∙ sym (le-ltb passed 2 all)
]

send_room : (silent passes : Bool) (room passed : ℕ) → room + passed ≡ 2 → passes ≡ (not silent || nat_lt passed 2) →
    cond silent (room - 1) room + cond (passes && silent) (passed + 1) passed ≡ 2
send_room false true room passed both is = both
send_room false false room passed both is = both
send_room true true room passed both is = let less : passed < 2 = ltb-true passed 2 (sym is) in omega (arith, both, less)
send_room true false room passed both is = let all : 2 ≤ passed = ltb-false passed 2 (sym is) in omega (arith, both, all)

agree : (happenings : List Happening) (silence : Silence) → IsAfter happenings silence → Agrees happenings silence
agree [] silence is = record {
  waited = ap (λ (s : Silence). s.waited) is;
  room = omega (arith, ap (λ (s : Silence). s.room) is);
  follow = tt;
}
agree (Tick ∷ before) silence is =
    let old : Agrees before is.0 = agree before is.0 is.1 in
    record {
      waited = ap (λ (s : Silence). s.waited) is.2 ∙ (ap (option_map (λ n. min (n + 1) 4294967295))
          old.waited ∙ tick_more (ticks_since before));
      room = omega (arith, ap (λ (s : Silence). s.room) is.2);
      follow = old.follow;
    }
agree (Acknowledge ∷ before) silence is =
    let old : Agrees before is.0 = agree before is.0 is.1 in
    record {
      waited = ap (λ (s : Silence). s.waited) is.2;
      room = omega (arith, ap (λ (s : Silence). s.room) is.2, old.room);
      follow = old.follow;
    }
agree (Send passes ∷ before) silence is =
    let old : Agrees before is.0 = agree before is.0 is.1 in
    let silent : is_silent is.0 ≡ is_quiet before = silent_is before is.0 old in
    let passed : passes ≡ (not (is_quiet before) || nat_lt (passed_since before) 2) =
    is.2.passed
    ∙ (ap (λ (b : Bool). not b || nat_lt 0 is.0.room) silent
    ∙ ap (λ (b : Bool). not (is_quiet before) || b) (room_left is.0.room (passed_since before) old.room)) in
    record {
      waited = is.2.waits ∙ (ap (λ (w : Option ℕ). Some (unwrap_or w 0)) old.waited ∙ sent_more (ticks_since before));
      room = ap (λ (n : ℕ). n + passed_since (Send passes ∷ before))
          (is.2.room ∙ ap (λ (b : Bool). cond b (is.0.room - 1) is.0.room) silent)
          ∙ send_room (is_quiet before) passes is.0.room (passed_since before) old.room passed;
      follow = (passed, old.follow);
    }

pub silent_sites_are_sent_few : SilentSitesAreSentFew
silent_sites_are_sent_few happenings silence is =
    let agrees : Agrees happenings silence = agree happenings silence is in
    (agrees.follow, omega (arith, agrees.room), silent_is happenings silence agrees)
