-- Heads that were read, one after another.
use Rattle.std.proofs.Common.{◌≡◌, ℕ, suc, ◌+◌, ◌<◌, List, [], ◌∷◌, ◌++◌, length, take, get_or, map, Option, None, Some, refl, ap, sym, ◌∙◌, subst, arith, length-append, append_assoc}
use Rattle.std.specs.Prelude.{IfSome}
use Rattle.std.proofs.lemmas.List.{append-nil}
use Rattle.demi_spec.specs.Record.{Record, payload}
use Rattle.demi_logq.specs.Logged.{Holds, place_of, end_of}
use Rattle.demi_logq.proofs.Entry.{length-ends}
use Rattle.demi_store.specs.Openings.{Alike, FitsRecord, heard, payload_told}
use Rattle.demi_store.proofs.Heard.{Spells, heard_fits, heard_length, heard_payload}
use Rattle.demi_store.proofs.Opened.{alike_more, told_payload, all_alike, text_read, holds_records}
use Rattle.demi_store.proofs.Shelving.{fits_more}
use Rattle.demi_cli.specs.declared.head.Head.{Head}
use Rattle.demi_cli.specs.declared.heads.Heads.{Heads}
use Rattle.demi_cli.specs.Heads.{HeadsAll, HeadsTo, head_of, keys_of}

heads_push : (records : List Record) (r : Record) → map head_of (records ++ r ∷ []) ≡ map head_of records ++ head_of r ∷ []
heads_push [] r = refl
heads_push (x ∷ records) r = ap (λ (l : List Head). head_of x ∷ l) (heads_push records r)

keys_push : (records : List Record) (r : Record) → keys_of (records ++ r ∷ []) ≡ keys_of records ++ r.key
keys_push [] r = append-nil r.key
keys_push (x ∷ records) r = ap (λ (l : List ℕ). x.key ++ l) (keys_push records r) ∙ sym (append_assoc x.key (keys_of records) r.key)

-- the head with these fields
pub head_is : (link index value key : ℕ) (r : Record) → link ≡ r.link → index ≡ r.index → value ≡ length r.value → key ≡ length r.key
    → record { index = index; value_bytes = value; link = link; key_bytes = key } ≡ head_of r
head_is link index value key r l i v k =
    ap (λ n. record { index = n; value_bytes = value; link = link; key_bytes = key }) i
    ∙ ap (λ n. record { index = r.index; value_bytes = n; link = link; key_bytes = key }) v
    ∙ ap (λ n. record { index = r.index; value_bytes = length r.value; link = n; key_bytes = key }) l
    ∙ ap (λ n. record { index = r.index; value_bytes = length r.value; link = r.link; key_bytes = n }) k

-- one head more
pub head_more : (told : Option (List ℕ)) (held : ℕ) (ends : List ℕ) (heads heads' : Heads) (i count size place : ℕ) (room : List ℕ) → HeadsTo told ends heads i → IfSome told (λ b. length b ≡ held)
    → i < length ends → place ≡ place_of ends i + 4 → ((payloads : List (List ℕ)) → Holds told ends payloads → size ≡ length (get_or payloads i []))
    → Spells (take count room) size (payload_told told place size) → FitsRecord (take count room) size → length (take count room) ≡ count
    → ((payloads : List (List ℕ)) → Holds told ends payloads → IfSome told (λ b. take count room ≡ take count (get_or payloads i [])))
    → heads'.heads.items ≡ heads.heads.items ++ head_of (heard (payload_told told place size) (take count room)) ∷ []
    → heads'.keys.items ≡ heads.keys.items ++ (heard (payload_told told place size) (take count room)).key
    → HeadsTo told ends heads' (i + 1)
head_more told held ends heads heads' i count size place room t long less at sizes s f front parts more keys = record {
  records = t.records ++ r ∷ [];
  alike = λ payloads h.
      let l : length ends ≡ length payloads = ap length h.places ∙ length-ends 8 payloads in
      let one : suc i ≡ i + 1 = omega arith in
      subst (λ n. Alike told (take n payloads) (t.records ++ r ∷ [])) one
      (alike_more told payloads t.records i r (t.alike payloads h) (omega arith) (sym (sizes payloads h) ∙ sym (heard_length head size p s f))
      (same told (get_or payloads i []) (told_payload told ends payloads h i place size less at (sizes payloads h)) (parts payloads h)));
  fits = fits_more t.records r t.fits (heard_fits head size p s f);
  heads_of = record {
    heads_are = more ∙ ap (λ (l : List Head). l ++ head_of r ∷ []) t.heads_of.heads_are ∙ sym (heads_push t.records r);
    keys_are = keys ∙ ap (λ (l : List ℕ). l ++ r.key) t.heads_of.keys_are ∙ sym (keys_push t.records r);
  };
  count_is = omega (arith, length-append t.records (r ∷ []), t.count_is);
}
  where
    head : List ℕ
    head = take count room

    p : List ℕ
    p = payload_told told place size

    r : Record
    r = heard p head

    same : (o : Option (List ℕ)) (q : List ℕ) → IfSome o (λ _. p ≡ q) → IfSome o (λ b. head ≡ take count q) → IfSome o (λ _. q ≡ payload r)
    same None q a b = tt
    same (Some x) q a b =
        let here : head ≡ take (length head) p = b ∙ ap (take count) (sym a) ∙ ap (λ n. take n p) (sym front) in
        sym a ∙ sym (heard_payload head size p s f here)

-- all of them
pub heads_all : (told : Option (List ℕ)) (held : ℕ) (ends : List ℕ) (heads : Heads) (i : ℕ) (payloads : List (List ℕ)) → HeadsTo told ends heads i → i ≡ length ends → Holds told ends payloads
    → IfSome told (λ b. length b ≡ held) → held ≡ end_of payloads → HeadsAll told ends heads
heads_all told held ends heads i payloads t all holds long whole =
    let alike = all_alike told ends payloads t.records i holds all (t.alike payloads holds) in
    record {
      records = t.records;
      heads_of = t.heads_of;
      read = text_read told held ends payloads t.records holds long whole alike t.fits;
      holds = holds_records told ends payloads t.records holds alike;
      count_is = t.count_is ∙ all;
    }
