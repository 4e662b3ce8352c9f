-- Words read as a book are the book that the grammar has: what each reading of `Books` can give. Assumes nothing.
use Rattle.std.proofs.Common.{◌≡◌, ℕ, ◌<◌, ◌≤◌, Bool, true, false, cond, eqb, List, [], ◌∷◌, ◌++◌, length, Some, None, Ok, Err, codes, Option, Result, sym, refl, ap, ◌∙◌, subst, append_assoc, arith}
use Rattle.std.specs.Str.{bytes_eq}
use Rattle.std.proofs.lemmas.Slice.Eq.{bytes_eq-Decides}
use Rattle.std.proofs.lemmas.Bool.{cond_both, eqb-true, eqb-false}
use Rattle.job.specs.declared.unreadable.Unreadable.{Unreadable}
use Rattle.job.specs.Books.{Floor, ledger, card, Held, held, listing, listed, passing, behind_over, recalling, layer, below, layers, floor, given, entry, holding, held_in, also, all_held, some_held, entries}
use Rattle.job.specs.Grammar.{Serials, no_serial, serial, Sheets, bare, over, Base, a_ledger, a_card, Entry, parts, Entries, no_entry, one_entry, Ending, nothing, with_entries}
use Rattle.job.specs.Limits.{small_limit, record_limit, standing_limit}
use Rattle.job.specs.Numbers.{number, Number}
use Rattle.job.specs.Operands.{Part, part, on, leading_number}
use Rattle.job.specs.Words.{front, behind}
use Rattle.job.proofs.ReadNumbers.{First, first, no_first, first_view}
use Rattle.job.proofs.Values.{number_means}

-- a word that spells v may stand for v
pub spelt : (P : List ℕ → Type 0) (w v : List ℕ) → bytes_eq w v ≡ true → P v → P w
spelt P w v e p = subst P (sym ((bytes_eq-Decides w v).0 e)) p

-- layers

data Past : List (List ℕ) → List ℕ → Result (List (List ℕ)) Unreadable → Type 0 where
  past : {ws after : List (List ℕ)} {ns : List ℕ} → Serials ws ns → Past (ws ++ codes "over" ∷ after) ns (Ok after)
  no_past : {ws : List (List ℕ)} {ns : List ℕ} {e : Unreadable} → Past ws ns (Err e)

past_more : {w : List ℕ} {n : ℕ} {ws : List (List ℕ)} {ns : List ℕ} {r : Result (List (List ℕ)) Unreadable} → Number small_limit w n → Past ws ns r → Past (w ∷ ws) (n ∷ ns) r
past_more h (past s) = past (serial h s)
past_more h no_past = no_past

past_passing : (w : List ℕ) (o : Option ℕ) {ws : List (List ℕ)} {ns : List ℕ} {r : Result (List (List ℕ)) Unreadable} → number small_limit w ≡ o → Past ws ns r → Past (w ∷ ws) (listing o ns) (passing o r)
past_passing w (Some n) e p = past_more (number_means small_limit w n e) p
past_passing w None e p = no_past

past_view : (ws : List (List ℕ)) → Past ws (listed ws) (behind_over ws)
past_view [] = no_past
past_view (w ∷ ws) =
    cond_both (bytes_eq w (codes "over")) (Ok ws) (passing (number small_limit w) (behind_over ws)) (Past (w ∷ ws) (listed (w ∷ ws)))
    (λ e. spelt (λ v. Past (v ∷ ws) (listed (v ∷ ws)) (Ok ws)) w (codes "over") e (past no_serial))
    (λ e. past_passing w (number small_limit w) refl (past_view ws))

data Layer : List (List ℕ) → Result (Option (Part (List ℕ))) Unreadable → Type 0 where
  a_layer : {ws after : List (List ℕ)} {ns : List ℕ} → Serials ws ns → Layer (codes "recall" ∷ (ws ++ codes "over" ∷ after)) (Ok (Some (part ns after)))
  no_layer : {ws : List (List ℕ)} → Layer ws (Ok None)
  bad_layer : {ws : List (List ℕ)} {e : Unreadable} → Layer ws (Err e)

layer_from : {ws : List (List ℕ)} {ns : List ℕ} {r : Result (List (List ℕ)) Unreadable} → Past ws ns r → Layer (codes "recall" ∷ ws) (recalling ns r)
layer_from (past s) = a_layer s
layer_from no_past = bad_layer

layer_view : (ws : List (List ℕ)) → Layer ws (layer ws)
layer_view [] = no_layer
layer_view (w ∷ ws) =
    cond_both (bytes_eq w (codes "recall")) (recalling (listed ws) (behind_over ws)) (Ok None) (Layer (w ∷ ws))
    (λ e. spelt (λ v. Layer (v ∷ ws) (recalling (listed ws) (behind_over ws))) w (codes "recall") e (layer_from (past_view ws)))
    (λ e. no_layer)

pub data Layered : List (List ℕ) → Result (Part (List (List ℕ))) Unreadable → Type 0 where
  the_layers : {ws after : List (List ℕ)} {ls : List (List ℕ)} → Sheets ws ls → length ls ≤ 2 → Layered (ws ++ after) (Ok (part ls after))
  no_layers : {ws : List (List ℕ)} {e : Unreadable} → Layered ws (Err e)

-- a layer over what is read as layers
put_over : {ws : List (List ℕ)} {ns : List ℕ} (low after : List (List ℕ)) (ls : List (List ℕ)) → Serials ws ns → Sheets low ls → length (ns ∷ ls) ≤ 2 → Layered (codes "recall" ∷ (ws ++ codes "over" ∷ (low ++ after))) (Ok (part (ns ∷ ls) after))
put_over {ws} {ns} low after ls s l h =
    subst (λ v. Layered (codes "recall" ∷ v) (Ok (part (ns ∷ ls) after))) (append_assoc ws (codes "over" ∷ low) after)
    (the_layers {ws = codes "recall" ∷ (ws ++ codes "over" ∷ low)} {after = after} (over s l) h)

second_layer : {ws xs : List (List ℕ)} {ns : List ℕ} {r : Result (Option (Part (List ℕ))) Unreadable} → Serials ws ns → Layer xs r → Layered (codes "recall" ∷ (ws ++ codes "over" ∷ xs)) (below r (Ok (part (ns ∷ []) xs)) (λ ms ys. Ok (part (ns ∷ ms ∷ []) ys)))
second_layer {ws = us} {ns = ks} s (a_layer {ws} {after} {ns} t) =
    subst (λ v. Layered (codes "recall" ∷ (us ++ codes "over" ∷ (codes "recall" ∷ v))) (Ok (part (ks ∷ ns ∷ []) after))) (append_assoc ws (codes "over" ∷ []) after)
    (put_over (codes "recall" ∷ (ws ++ codes "over" ∷ [])) after (ns ∷ []) s (over t bare) (omega arith))
second_layer {xs} s no_layer = put_over [] xs [] s bare (omega arith)
second_layer s bad_layer = no_layers

first_layer : {ws : List (List ℕ)} {r : Result (Option (Part (List ℕ))) Unreadable} → Layer ws r → Layered ws (below r (Ok (part [] ws)) (λ ns xs. below (layer xs) (Ok (part (ns ∷ []) xs)) (λ ms ys. Ok (part (ns ∷ ms ∷ []) ys))))
first_layer (a_layer {after} s) = second_layer s (layer_view after)
first_layer no_layer = the_layers bare (omega arith)
first_layer bad_layer = no_layers

pub layers_view : (ws : List (List ℕ)) → Layered ws (layers ws)
layers_view ws = first_layer (layer_view ws)

-- the lowest book

pub data Based : List (List ℕ) → Result (Part Floor) Unreadable → Type 0 where
  based : {ws after : List (List ℕ)} {f : Floor} → Base ws f → Based (ws ++ after) (Ok (part f after))
  no_base : {ws : List (List ℕ)} {e : Unreadable} → Based ws (Err e)

ledger_from : {ws : List (List ℕ)} {r : Result (Part ℕ) Unreadable} → First record_limit ws r → Based (codes "ledger" ∷ ws) (on r (λ n ns. Ok (part (ledger n) ns)))
ledger_from (first {w} {ws} h) = based {ws = codes "ledger" ∷ w ∷ []} {after = ws} (a_ledger h)
ledger_from no_first = no_base

pub floor_view : (ws : List (List ℕ)) → Based ws (floor ws)
floor_view [] = no_base
floor_view (w ∷ ws) =
    cond_both (bytes_eq w (codes "card")) (Ok (part card ws)) _ (Based (w ∷ ws))
    (λ e. spelt (λ v. Based (v ∷ ws) (Ok (part card ws))) w (codes "card") e (based {ws = codes "card" ∷ []} {after = ws} a_card))
    (λ e. cond_both (bytes_eq w (codes "ledger")) _ _ (Based (w ∷ ws))
    (λ e. spelt (λ v. Based (v ∷ ws) (on (leading_number record_limit ws) (λ n ns. Ok (part (ledger n) ns)))) w (codes "ledger") e (ledger_from (first_view record_limit ws)))
    (λ e. no_base))

-- entries

-- a list with something behind its first b is what stands before it, b, and what stands behind it
cut_step : (b x : ℕ) (xs : List ℕ) (t : Bool) → eqb x b ≡ t → (0 < length (behind b xs) → front b xs ++ b ∷ behind b xs ≡ xs) → 0 < length (cond t xs (behind b xs)) → cond t [] (x ∷ front b xs) ++ b ∷ cond t xs (behind b xs) ≡ x ∷ xs
cut_step b x xs true e more h = ap (λ y. y ∷ xs) (sym (eqb-true x b e))
cut_step b x xs false e more h = ap (λ l. x ∷ l) (more h)

cut_again : (b : ℕ) (w : List ℕ) → 0 < length (behind b w) → front b w ++ b ∷ behind b w ≡ w
cut_again b [] h = absurd (omega arith)
cut_again b (x ∷ xs) h = cut_step b x xs (eqb x b) refl (cut_again b xs) h

behind_some : (b : ℕ) (w : List ℕ) → 0 < length (behind b w) → 0 < length w
behind_some b [] h = h
behind_some b (x ∷ xs) h = omega arith

data Given {A : Type 0} (o : Option ℕ) (f : ℕ → Option A) (a : A) : Type 0 where
  it_is : (n : ℕ) → o ≡ Some n → f n ≡ Some a → Given o f a

given_some : {A : Type 0} (o : Option ℕ) (f : ℕ → Option A) (a : A) → given o f ≡ Some a → Given o f a
given_some (Some n) f a h = it_is n refl h
given_some None f a h = absurd cc

module _ (w : List ℕ) (h : Held) where
  standing_means : (s t r : ℕ) → Number small_limit (front 58 w) s → Number standing_limit (front 58 (behind 58 w)) t → Number small_limit (behind 58 (behind 58 w)) r → cond (eqb t 0) None (Some (held s t r)) ≡ Some h → Entry w h
  standing_means s t r ns nt nr =
      let inner = cut_again 58 (behind 58 w) nr.some in
      let outer = cut_again 58 w (behind_some 58 (behind 58 w) nr.some) in
      let whole : front 58 w ++ 58 ∷ (front 58 (behind 58 w) ++ 58 ∷ behind 58 (behind 58 w)) ≡ w = ap (λ l. front 58 w ++ 58 ∷ l) inner ∙ outer in
      cond_both (eqb t 0) None (Some (held s t r)) (λ o. o ≡ Some h → Entry w h)
      (λ e i. absurd cc)
      (λ e i.
      let some : 1 ≤ t = omega (arith, eqb-false t 0 e) in
      let same : held s t r ≡ h = cc in
      subst (Entry w) same (subst (λ v. Entry v (held s t r)) whole (parts ns nt some nr)))

  row_means : (s t : ℕ) → Number small_limit (front 58 w) s → Number standing_limit (front 58 (behind 58 w)) t → Given (number small_limit (behind 58 (behind 58 w))) (λ r. cond (eqb t 0) None (Some (held s t r))) h → Entry w h
  row_means s t ns nt (it_is r e i) = standing_means s t r ns nt (number_means small_limit (behind 58 (behind 58 w)) r e) i

  second_means : (s : ℕ) → Number small_limit (front 58 w) s → Given (number standing_limit (front 58 (behind 58 w))) (λ t. given (number small_limit (behind 58 (behind 58 w))) (λ r. cond (eqb t 0) None (Some (held s t r)))) h → Entry w h
  second_means s ns (it_is t e i) = row_means s t ns (number_means standing_limit (front 58 (behind 58 w)) t e) (given_some _ _ h i)

  serial_means : Given (number small_limit (front 58 w)) (λ s. given (number standing_limit (front 58 (behind 58 w))) (λ t. given (number small_limit (behind 58 (behind 58 w))) (λ r. cond (eqb t 0) None (Some (held s t r))))) h → Entry w h
  serial_means (it_is s e i) = second_means s (number_means small_limit (front 58 w) s e) (given_some _ _ h i)

  entry_means : entry w ≡ Some h → Entry w h
  entry_means e = serial_means (given_some _ _ h e)

also_means : (w : List ℕ) (o : Option Held) (b : Bool) {ws : List (List ℕ)} {hs : List Held} → entry w ≡ o → (b ≡ true → Entries ws hs) → also o b ≡ true → Entries (w ∷ ws) (holding o hs)
also_means w (Some h) b e more i = one_entry (entry_means w h e) (more i)
also_means w None b e more i = absurd cc

held_means : (ws : List (List ℕ)) → all_held ws ≡ true → Entries ws (held_in ws)
held_means [] e = no_entry
held_means (w ∷ ws) e = also_means w (entry w) (all_held ws) refl (held_means ws) e

pub data Ended : List (List ℕ) → Result (List Held) Unreadable → Type 0 where
  ended : {ws : List (List ℕ)} {hs : List Held} → Ending ws hs → Ended ws (Ok hs)
  no_end : {ws : List (List ℕ)} {e : Unreadable} → Ended ws (Err e)

with_from : {w : List ℕ} {ws : List (List ℕ)} {hs : List Held} → Entries (w ∷ ws) hs → Ended (codes "with" ∷ w ∷ ws) (Ok hs)
with_from (one_entry e es) = ended (with_entries (one_entry e es))

some_view : (ws : List (List ℕ)) → Ended (codes "with" ∷ ws) (some_held ws)
some_view [] = no_end
some_view (w ∷ ws) =
    cond_both (all_held (w ∷ ws)) (Ok (held_in (w ∷ ws))) _ (Ended (codes "with" ∷ w ∷ ws))
    (λ e. with_from (held_means (w ∷ ws) e))
    (λ e. no_end)

pub entries_view : (ws : List (List ℕ)) → Ended ws (entries ws)
entries_view [] = ended nothing
entries_view (w ∷ ws) =
    cond_both (bytes_eq w (codes "with")) (some_held ws) _ (Ended (w ∷ ws))
    (λ e. spelt (λ v. Ended (v ∷ ws) (some_held ws)) w (codes "with") e (some_view ws))
    (λ e. no_end)
