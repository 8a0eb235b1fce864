-- What follows from the definition of joining: how long the joined document is, that a refusal leaves the buffer as it was, and that the
-- bytes behind stay (RULES.md, "Writer and joining").
use Prim.Native.Nat.{ℕ, ◌+◌, ◌-◌, ◌≤◌}
use mathlib.Core.Path.{◌≡◌, refl, sym, ap, ◌∙◌}
use mathlib.Core.List.{List, [], ◌∷◌, ◌++◌, append_assoc}
use mathlib.Core.Bool.{Bool, false}
use native.Mathlib.Omega.{arith}
use lib.Dec.{leb}
use lib.ListN.{length, take, drop, length-append, length-drop}
use lib.Seq.{length-take-le}
use borrow.Author.Tests.{leb-true}
use Rattle.bson.specs.Answer.{Answer, gives, refuses}
use Rattle.bson.specs.Step.{admitted, cursor}
use Rattle.bson.specs.Level.{outermost}
use Rattle.bson.specs.Check.{check, check_under}
use Rattle.bson.specs.Grammar.{bytes32, document_of}
use Rattle.bson.specs.Output.{Output, output, put, put_texts}
use Rattle.bson.specs.Output as Texts
use Rattle.bson.specs.Writer.{room}
use Rattle.bson.specs.Join.{body, both, wrote, refused, Joined, passing, size_of_both, both_put, join}
use Rattle.laws.proofs.AnswerLaws.{never, gives_injective, unless_gives}
use Rattle.laws.proofs.StepLaws.{admitted_says}
use Rattle.laws.proofs.AdvanceLaws.{step_unadmitted}
use Rattle.laws.proofs.CheckLaws.{walk_eq, walk_refused}
use Rattle.laws.proofs.OutputLaws.{take_put, drop_put, texts_fit}
use Rattle.laws.proofs.GrammarLaws.{length_document}
use Rattle.laws.proofs.WriterLaws.{room_within}

-- ---- lengths and bodies

-- what passes the check is admitted, so it has a length and a terminator
pub check_admits : (strict : Bool) (s : List ℕ) (n : ℕ) → check strict s ≡ gives n → 5 ≤ length s
unfolding check_under
check_admits strict s n e = by (admitted s) refl
  where
    by : (a : Answer ℕ) → admitted s ≡ a → 5 ≤ length s
    by (gives m) q = (admitted_says s m q).0
    by (refuses k p) q =
        never (sym (walk_eq _ strict s outermost ∙ walk_refused _ strict s outermost 0 4 k p (step_unadmitted _ s (cursor 4 false) k p q))
        ∙ e)

length_body : (s : List ℕ) → 5 ≤ length s → length (body s) ≡ length s - 5
unfolding body
length_body s h = length-take-le (length s - 5) (drop 4 s) (simp length-drop (omega arith))

module _ (first second : List ℕ) (a : 5 ≤ length first) (b : 5 ≤ length second) where
  length_bodies : length (body first ++ body second) + 5 ≡ length first + length second - 5
  length_bodies =
      let k = length_body first a in
      let m = length_body second b in
      simp (length-append) (omega arith)

  -- "its length is the sum less 5"
  pub length_both : length (both first second) ≡ length first + length second - 5
  unfolding both
  length_both = length_document (body first ++ body second) ∙ length_bodies

  pieces : (n : ℕ) → n ≡ length first + length second - 5
      → Texts.joined (bytes32 n ∷ body first ∷ body second ∷ (0 ∷ []) ∷ []) ≡ both first second
  unfolding both document_of
  pieces n e = rw (e ∙ sym length_bodies, append_assoc) refl

  -- as the code puts them: the length, both bodies and the terminator, one after the other
  pub bodies_put : (buffer : List ℕ) (size : ℕ) (o : Output) → size ≡ length first + length second - 5 → size ≤ length buffer
      → o ≡ put_texts (output buffer 0) (bytes32 size ∷ body first ∷ body second ∷ (0 ∷ []) ∷ [])
      → o.buffer ≡ put buffer 0 (both first second)
  bodies_put buffer size o e h q =
      let texts : List (List ℕ) = bytes32 size ∷ body first ∷ body second ∷ (0 ∷ []) ∷ [] in
      let same : Texts.joined texts ≡ both first second = pieces size e in
      let long : length (Texts.joined texts) ≡ size = ap length same ∙ length_both ∙ sym e in
      ap (λ (x : Output). x.buffer) (q ∙ texts_fit (output buffer 0) texts (omega arith)) ∙ ap (put buffer 0) same

-- ---- the tests, one after the other

never_wrote : {P : Type 0} {number place which n : ℕ} → refused number place which ≡ wrote n → P
never_wrote e = let z : ◌≡◌ {A = ℕ} 0 1 = cc in let w : ⊥ = omega arith in absurd w

wrote_injective : {m n : ℕ} → wrote m ≡ wrote n → m ≡ n
wrote_injective e = cc

-- a test that did not refuse gave, and what follows decided
passed : {A : Type 0} (which : ℕ) (x : Answer A) (buffer : List ℕ) (f : A → Joined) (n : ℕ) → (passing which x buffer f).outcome ≡ wrote n
    → (a : A) × (x ≡ gives a) × (passing which x buffer f ≡ f a)
passed which (gives a) buffer f n e = (a, refl, refl)
passed which (refuses k p) buffer f n e = never_wrote e

-- ---- a refused join

abbrev Unchanged : List ℕ → Joined → Type 0
Unchanged buffer j = (number place which : ℕ) → j.outcome ≡ refused number place which → j.left ≡ buffer

still : {A : Type 0} (which : ℕ) (x : Answer A) (buffer : List ℕ) (f : A → Joined) → ((a : A) → Unchanged buffer (f a))
    → Unchanged buffer (passing which x buffer f)
still which (gives a) buffer f h = h a
still which (refuses k p) buffer f h = λ number place which e. refl

module _ (first second buffer : List ℕ) where
  abbrev done : Joined
  done = join first second buffer

  -- "a refused call changes no byte of a lent buffer"
  put_unchanged : Unchanged buffer (both_put first second buffer)
  unfolding both_put
  put_unchanged = still 0 (size_of_both first second (room (length buffer))) buffer _ (λ size number place which e. never_wrote (sym e))

  pub join_unchanged : Unchanged buffer done
  unfolding join
  join_unchanged = still 1 (check false first) buffer _ (λ _. still 2 (check false second) buffer _ (λ _. put_unchanged))

  -- ---- a join that writes

  -- where none refuses: both pass, the document of both bodies is written, and "bytes behind it stay"
  pub record Wrote (n : ℕ) : Type 0 where
    pub first_passes : (a : ℕ) × (check false first ≡ gives a)
    pub second_passes : (b : ℕ) × (check false second ≡ gives b)
    pub sum : n ≡ length first + length second - 5
    pub written : take n done.left ≡ both first second
    pub stays : drop n done.left ≡ drop n buffer

  pub join_wrote : (n : ℕ) → done.outcome ≡ wrote n → Wrote n
  unfolding join both_put size_of_both
  join_wrote n e =
      let (a, q, e1) = passed 1 (check false first) buffer _ n e in
      let f1 = sym (ap (λ (j : Joined). j.outcome) e1) ∙ e in
      let (b, r, e2) = passed 2 (check false second) buffer _ n f1 in
      let f2 = sym (ap (λ (j : Joined). j.outcome) e2) ∙ f1 in
      let (m, x, e3) = passed 0 (size_of_both first second (room (length buffer))) buffer _ n f2 in
      let (t, x1) = unless_gives (leb (length first + length second - 5) (room (length buffer))) 14 _ x in
      let size : length first + length second - 5 ≡ n = gives_injective x1
      ∙ wrote_injective (sym (ap (λ (j : Joined). j.outcome) e3) ∙ f2) in
      let long : length (both first second) ≡ n = length_both first second (check_admits false first a q) (check_admits false second b r)
      ∙ size in
      let front : n ≡ 0 + length (both first second) = omega arith in
      let fits = leb-true (length first + length second - 5) (room (length buffer)) t in
      let low = (room_within (length buffer)).0 in
      let left : done.left ≡ put buffer 0 (both first second) = ap (λ (j : Joined). j.left) (e1 ∙ e2 ∙ e3) in
      record {
        first_passes = (a, q);
        second_passes = (b, r);
        sum = sym size;
        written =
            rw left (ap (λ (i : ℕ). take i (put buffer 0 (both first second))) front ∙ take_put buffer 0 (both first second) (omega arith));
        stays = rw left (drop_put buffer 0 (both first second) (omega arith) n (omega arith));
      }
