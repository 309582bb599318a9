-- What writes in a row append.
use Rattle.std.proofs.Common.{◌≡◌, ℕ, ◌-◌, List, ◌++◌, length, take, drop, Option, Some, None, Result, Ok, Err, sym, ap, ◌∙◌, append_assoc}
use Rattle.std.proofs.lemmas.List.{take-append-drop, take_rest}
use Rattle.std.specs.Result.{IsErr}
use Rattle.std.specs.Io.KnownBytes.{Appends}
use Rattle.cast_device.specs.Writing.{WrotePart, Writes}

pub appends_more : (a b c : Option (List ℕ)) (xs ys : List ℕ) → Appends a b xs → Appends b c ys → Appends a c (xs ++ ys)
appends_more None b c xs ys p q = tt
appends_more (Some x) None c xs ys p q = absurd p
appends_more (Some x) (Some y) None xs ys p q = absurd q
appends_more (Some x) (Some y) (Some z) xs ys p q = q ∙ (ap (λ (l : List ℕ). l ++ ys) p ∙ append_assoc x xs ys)

-- the writer has the bytes up to the rest more
pub record Wrote (old new : Option (List ℕ)) (bytes rest : List ℕ) : Type 0 where
  pub out : List ℕ
  pub parts : bytes ≡ out ++ rest
  pub appended : Appends old new out

module _ {a b c : Option (List ℕ)} {bytes : List ℕ} where
  -- n bytes more, where the rest is the slice behind them
  pub wrote_more : {rest : List ℕ} (n : ℕ) → Wrote a b bytes rest → Appends b c (take n rest) →
      Wrote a c bytes (take (length rest - n) (drop n rest))
  wrote_more {rest} n w more =
      let joined : take n rest ++ drop n rest ≡ rest = take-append-drop n rest in
      rw (take_rest rest n)
      (record {
        out = w.out ++ take n rest;
        parts = w.parts ∙ (ap (λ (l : List ℕ). w.out ++ l) (sym joined) ∙ sym (append_assoc w.out (take n rest) (drop n rest)));
        appended = appends_more a b c w.out (take n rest) w.appended more;
      })

  -- a piece is written whole
  pub wrote_piece : {rest : List ℕ} (piece : List ℕ) → Wrote a b bytes (piece ++ rest) → Appends b c piece → Wrote a c bytes rest
  wrote_piece {rest} piece w more =
      record {
        out = w.out ++ piece;
        parts = w.parts ∙ sym (append_assoc w.out piece rest);
        appended = appends_more a b c w.out piece w.appended more;
      }

  -- a beginning of a piece is written
  pub wrote_piece_part : (piece rest : List ℕ) → Wrote a b bytes (piece ++ rest) → WrotePart b c piece → WrotePart a c bytes
  wrote_piece_part piece rest w part =
      let inner = part.front in
      let regrouped : w.out ++ (piece ++ rest) ≡ (w.out ++ part.out) ++ (inner.0 ++ rest) = rw inner.1 (simp append_assoc) in
      record {
        out = w.out ++ part.out;
        front = (inner.0 ++ rest, w.parts ∙ regrouped);
        appended = appends_more a b c w.out part.out w.appended part.appended;
      }

pub writes_part : {T E : Type 0} {a b : Option (List ℕ)} {bytes : List ℕ} (r : Result T E) → IsErr r → WrotePart a b bytes →
    Writes a b r bytes
writes_part (Ok x) err part = absurd cc
writes_part (Err e) err part = part
