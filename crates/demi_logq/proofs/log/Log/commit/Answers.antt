use Rattle.std.proofs.Common.{◌≡◌, ◌+◌, ◌-◌, ◌<◌, ◌≤◌, ℕ, List, [], ◌∷◌, ◌++◌, length, drop, true, false, arith, ap, sym, ◌∙◌, subst, rules, length-drop, vec_len}
use Rattle.std.specs.Prelude.{vec_capacity}
use Rattle.std.specs.Io.KnownBytes.{append_known}
use Rattle.std.proofs.lemmas.List.{length-take}
use Rattle.demi_core.specs.Outside.{GrowsByFront, Rose}
use Rattle.demi_spec.specs.LogText.{entry, IsPayload}
use Rattle.demi_logq.specs.Logged.{Logged, Holds, place_of, end_of}
use Rattle.demi_logq.proofs.Places.{end_more}
use Rattle.demi_logq.proofs.Holding.{end_is, holds_more, holds_on, front_only, length-entry}
use Rattle.demi_logq.proofs.log.Log.commit.Goals as goal

pub overflow_add-end : goal.overflow_add-end
overflow_add-end g c =
    let d = c.self.inside in
    let i = c.self.invariant in
    let is = c.self.view_is in
    let sound : d.torn ≡ false = c.if-self.false in
    let kept : d.lost ≡ false = c.if-self-2.false in
    let s = i.stands kept in
    let p : List ℕ = drop 4 d.stage.items in
    let long : length p ≡ length d.stage.items - 4 = length-drop 4 d.stage.items in
    let staged : c.args.self.now.staged ≡ p = ap (λ (x : Logged g.row.D.Denot). x.staged) (sym is) in
    let some : 0 < length p = omega (arith, c.requires, ap length staged) in
    let most : length p ≤ 65798 = omega (arith, i.fits) in
    let whole : g.D.Disk.held d.disk ≡ end_of s.payloads = s.whole sound in
    let end : place_of d.ends.items (length d.ends.items) ≡ end_of s.payloads = end_is _ _ s.payloads s.holds in
    let len : c.len.result ≡ length d.ends.items = search rules in
    let place : c.place.result ≡ place_of d.ends.items (length d.ends.items) = c.place.ensures ∙ ap (λ (l : List ℕ). place_of l c.len.result) c.deref.ensures.value ∙ ap (place_of d.ends.items) len in
    let items : c.fill_length.new.stage.items ≡ entry p = c.fill_length.ensures.items in
    let filled : length c.fill_length.new.stage.items ≡ 4 + length p = ap length items ∙ length-entry p in
    let size : c.len-2.result ≡ length c.fill_length.new.stage.items = search rules in
    omega (arith, s.most)

pub invariant_of-self-in-Ok : goal.invariant_of-self-in-Ok
invariant_of-self-in-Ok g c =
    let d = c.self.inside in
    let i = c.self.invariant in
    let is = c.self.view_is in
    let sound : d.torn ≡ false = c.if-self.false in
    let kept : d.lost ≡ false = c.if-self-2.false in
    let s = i.stands kept in
    let p : List ℕ = drop 4 d.stage.items in
    let long : length p ≡ length d.stage.items - 4 = length-drop 4 d.stage.items in
    let staged : c.args.self.now.staged ≡ p = ap (λ (x : Logged g.row.D.Denot). x.staged) (sym is) in
    let some : 0 < length p = omega (arith, c.requires, ap length staged) in
    let most : length p ≤ 65798 = omega (arith, i.fits) in
    let whole : g.D.Disk.held d.disk ≡ end_of s.payloads = s.whole sound in
    let end : place_of d.ends.items (length d.ends.items) ≡ end_of s.payloads = end_is _ _ s.payloads s.holds in
    let len : c.len.result ≡ length d.ends.items = search rules in
    let place : c.place.result ≡ place_of d.ends.items (length d.ends.items) = c.place.ensures ∙ ap (λ (l : List ℕ). place_of l c.len.result) c.deref.ensures.value ∙ ap (place_of d.ends.items) len in
    let items : c.fill_length.new.stage.items ≡ entry p = c.fill_length.ensures.items in
    let filled : length c.fill_length.new.stage.items ≡ 4 + length p = ap length items ∙ length-entry p in
    let size : c.len-2.result ≡ length c.fill_length.new.stage.items = search rules in
    let piece : c.deref-2.result.now ≡ entry p = c.deref-2.ensures.value ∙ items in
    let e = c.in-Ok.ensures in
    let bytes : g.D.Disk.bytes c.append-appended.new.self ≡ append_known (g.D.Disk.bytes d.disk) (entry p) = e.bytes ∙ ap (append_known (g.D.Disk.bytes d.disk)) piece in
    let held : g.D.Disk.held c.append-appended.new.self ≡ g.D.Disk.held d.disk + (4 + length p) = e.held ∙ ap (λ (l : List ℕ). g.D.Disk.held d.disk + length l) piece ∙ ap (λ n. g.D.Disk.held d.disk + n) (length-entry p) in
    let count : vec_len d.ends ≡ length d.ends.items = search rules in
    let counted : c.len-count.result ≡ length d.ends.items = search rules in
    let room : vec_len d.ends < vec_capacity d.ends = omega (arith, c.if-count-self.false, i.ends_room) in
    let pushed : c.push_reserved.new.self.items ≡ d.ends.items ++ (c.place.result + c.len-2.result) ∷ [] = c.push_reserved.ensures.items in
    let last : c.place.result + c.len-2.result ≡ place_of d.ends.items (length d.ends.items) + (4 + length p) = omega arith in
    let grown : c.push_reserved.new.self.items ≡ d.ends.items ++ (place_of d.ends.items (length d.ends.items) + (4 + length p)) ∷ [] = pushed ∙ ap (λ n. d.ends.items ++ n ∷ []) last in
    let told = g.met.D.Disk.told_held d.disk in
    let fits : IsPayload p = (some, most) in
    let there : g.D.Disk.held d.disk ≡ place_of d.ends.items (length d.ends.items) = whole ∙ sym end in
    record {
      stands = λ _. record {
        payloads = s.payloads ++ p ∷ [];
        holds = holds_more _ _ _ d.ends.items c.push_reserved.new.self.items s.payloads p s.holds fits told there bytes grown;
        within = omega (arith, end_more s.payloads p);
        most = omega (arith, end_more s.payloads p, e.most);
        whole = λ _. omega (arith, end_more s.payloads p);
      };
      ends_room = omega (arith, c.push_reserved.ensures.capacity, i.ends_room);
      front = omega (arith, ap length c.truncate-2.ensures.items, length-take 4 c.fill_length.new.stage.items);
      fits = omega (arith, ap length c.truncate-2.ensures.items, length-take 4 c.fill_length.new.stage.items);
      whole_entry = omega (arith, c.truncate-2.ensures.capacity, c.fill_length.ensures.room, i.whole_entry);
    }

pub invariant_of-self-in-Err : goal.invariant_of-self-in-Err
invariant_of-self-in-Err g c =
    let d = c.self.inside in
    let i = c.self.invariant in
    let is = c.self.view_is in
    let sound : d.torn ≡ false = c.if-self.false in
    let kept : d.lost ≡ false = c.if-self-2.false in
    let s = i.stands kept in
    let p : List ℕ = drop 4 d.stage.items in
    let long : length p ≡ length d.stage.items - 4 = length-drop 4 d.stage.items in
    let staged : c.args.self.now.staged ≡ p = ap (λ (x : Logged g.row.D.Denot). x.staged) (sym is) in
    let some : 0 < length p = omega (arith, c.requires, ap length staged) in
    let most : length p ≤ 65798 = omega (arith, i.fits) in
    let whole : g.D.Disk.held d.disk ≡ end_of s.payloads = s.whole sound in
    let end : place_of d.ends.items (length d.ends.items) ≡ end_of s.payloads = end_is _ _ s.payloads s.holds in
    let len : c.len.result ≡ length d.ends.items = search rules in
    let place : c.place.result ≡ place_of d.ends.items (length d.ends.items) = c.place.ensures ∙ ap (λ (l : List ℕ). place_of l c.len.result) c.deref.ensures.value ∙ ap (place_of d.ends.items) len in
    let items : c.fill_length.new.stage.items ≡ entry p = c.fill_length.ensures.items in
    let filled : length c.fill_length.new.stage.items ≡ 4 + length p = ap length items ∙ length-entry p in
    let size : c.len-2.result ≡ length c.fill_length.new.stage.items = search rules in
    let piece : c.deref-2.result.now ≡ entry p = c.deref-2.ensures.value ∙ items in
    let e = c.in-Err.ensures in
    let grown : GrowsByFront (g.D.Disk.bytes d.disk) (g.D.Disk.bytes c.append-appended.new.self) (g.D.Disk.held d.disk) (g.D.Disk.held c.append-appended.new.self) (entry p) =
    subst (λ l. GrowsByFront (g.D.Disk.bytes d.disk) (g.D.Disk.bytes c.append-appended.new.self) (g.D.Disk.held d.disk) (g.D.Disk.held c.append-appended.new.self) l) piece e.failed in
    let told = g.met.D.Disk.told_held d.disk in
    let there : g.D.Disk.held d.disk ≡ place_of d.ends.items (length d.ends.items) = whole ∙ sym end in
    record {
      stands = λ _. record {
        payloads = s.payloads;
        holds = holds_on _ _ _ d.ends.items s.payloads _ s.holds told there grown.2;
        within = omega (arith, grown.3, s.within);
        most = s.most;
        whole = λ h. absurd (cc);
      };
      ends_room = i.ends_room;
      front = omega (arith, ap length c.truncate-2.ensures.items, length-take 4 c.fill_length.new.stage.items);
      fits = omega (arith, ap length c.truncate-2.ensures.items, length-take 4 c.fill_length.new.stage.items);
      whole_entry = omega (arith, c.truncate-2.ensures.capacity, c.fill_length.ensures.room, i.whole_entry);
    }

pub returns-in-Ok-clause-done : goal.returns-in-Ok-clause-done
returns-in-Ok-clause-done g c =
    let d = c.self.inside in
    let i = c.self.invariant in
    let is = c.self.view_is in
    let sound : d.torn ≡ false = c.if-self.false in
    let kept : d.lost ≡ false = c.if-self-2.false in
    let s = i.stands kept in
    let p : List ℕ = drop 4 d.stage.items in
    let long : length p ≡ length d.stage.items - 4 = length-drop 4 d.stage.items in
    let staged : c.args.self.now.staged ≡ p = ap (λ (x : Logged g.row.D.Denot). x.staged) (sym is) in
    let some : 0 < length p = omega (arith, c.requires, ap length staged) in
    let most : length p ≤ 65798 = omega (arith, i.fits) in
    let whole : g.D.Disk.held d.disk ≡ end_of s.payloads = s.whole sound in
    let end : place_of d.ends.items (length d.ends.items) ≡ end_of s.payloads = end_is _ _ s.payloads s.holds in
    let len : c.len.result ≡ length d.ends.items = search rules in
    let place : c.place.result ≡ place_of d.ends.items (length d.ends.items) = c.place.ensures ∙ ap (λ (l : List ℕ). place_of l c.len.result) c.deref.ensures.value ∙ ap (place_of d.ends.items) len in
    let items : c.fill_length.new.stage.items ≡ entry p = c.fill_length.ensures.items in
    let filled : length c.fill_length.new.stage.items ≡ 4 + length p = ap length items ∙ length-entry p in
    let size : c.len-2.result ≡ length c.fill_length.new.stage.items = search rules in
    let piece : c.deref-2.result.now ≡ entry p = c.deref-2.ensures.value ∙ items in
    let e = c.in-Ok.ensures in
    let bytes : g.D.Disk.bytes c.append-appended.new.self ≡ append_known (g.D.Disk.bytes d.disk) (entry p) = e.bytes ∙ ap (append_known (g.D.Disk.bytes d.disk)) piece in
    let held : g.D.Disk.held c.append-appended.new.self ≡ g.D.Disk.held d.disk + (4 + length p) = e.held ∙ ap (λ (l : List ℕ). g.D.Disk.held d.disk + length l) piece ∙ ap (λ n. g.D.Disk.held d.disk + n) (length-entry p) in
    let count : vec_len d.ends ≡ length d.ends.items = search rules in
    let counted : c.len-count.result ≡ length d.ends.items = search rules in
    let room : vec_len d.ends < vec_capacity d.ends = omega (arith, c.if-count-self.false, i.ends_room) in
    let pushed : c.push_reserved.new.self.items ≡ d.ends.items ++ (c.place.result + c.len-2.result) ∷ [] = c.push_reserved.ensures.items in
    let last : c.place.result + c.len-2.result ≡ place_of d.ends.items (length d.ends.items) + (4 + length p) = omega arith in
    let grown : c.push_reserved.new.self.items ≡ d.ends.items ++ (place_of d.ends.items (length d.ends.items) + (4 + length p)) ∷ [] = pushed ∙ ap (λ n. d.ends.items ++ n ∷ []) last in
    let told = g.met.D.Disk.told_held d.disk in
    let fits : IsPayload p = (some, most) in
    let there : g.D.Disk.held d.disk ≡ place_of d.ends.items (length d.ends.items) = whole ∙ sym end in
    let ends : c.args.self.now.ends ≡ d.ends.items = ap (λ (x : Logged g.row.D.Denot). x.ends) (sym is) in
    let disk : c.args.self.now.disk ≡ d.disk = ap (λ (x : Logged g.row.D.Denot). x.disk) (sym is) in
    let limit : c.args.self.now.limit ≡ d.limit = ap (λ (x : Logged g.row.D.Denot). x.limit) (sym is) in
    let none : drop 4 c.truncate-2.new.self.items ≡ [] = front_only c.fill_length.new.stage.items c.truncate-2.new.self.items c.truncate-2.ensures.items in
    let counted : c.len-count.result ≡ length d.ends.items = search rules in
    record {
      sound = (ap (λ (x : Logged g.row.D.Denot). x.torn) (sym is) ∙ sound, ap (λ (x : Logged g.row.D.Denot). x.lost) (sym is) ∙ kept);
      index_is = counted ∙ ap length (sym ends);
      room = omega (arith, c.if-count-self.false, limit);
      now =
          ap (λ (l : List ℕ). record { disk = c.append-appended.new.self; ends = c.push_reserved.new.self.items; staged = l; limit = d.limit; torn = d.torn; lost = d.lost }) none
          ∙ ap (λ (v : Logged g.row.D.Denot). record { disk = c.append-appended.new.self; ends = c.push_reserved.new.self.items; staged = []; limit = v.limit; torn = v.torn; lost = v.lost }) is;
      holds = λ payloads h. subst (λ l. Holds (g.D.Disk.bytes c.append-appended.new.self) c.push_reserved.new.self.items (payloads ++ l ∷ [])) (sym staged)
          (holds_more (g.D.Disk.bytes d.disk) _ _ d.ends.items c.push_reserved.new.self.items payloads p
          (subst (λ l. Holds (g.D.Disk.bytes d.disk) l payloads) ends (subst (λ x. Holds (g.D.Disk.bytes x) c.args.self.now.ends payloads) disk h)) fits told there bytes grown);
      bytes_are = bytes ∙ ap (λ x. append_known (g.D.Disk.bytes x) (entry p)) (sym disk) ∙ ap (λ (l : List ℕ). append_known (g.D.Disk.bytes c.args.self.now.disk) (entry l)) (sym staged);
      held_is = held ∙ ap (λ x. g.D.Disk.held x + (4 + length p)) (sym disk) ∙ ap (λ (l : List ℕ). g.D.Disk.held c.args.self.now.disk + (4 + length l)) (sym staged);
      call = subst (λ x. g.D.Disk.appends x (entry c.args.self.now.staged) true c.append-appended.new.self) (sym disk)
          (subst (λ l. g.D.Disk.appends d.disk (entry l) true c.append-appended.new.self) (sym staged) (subst (λ l. g.D.Disk.appends d.disk l true c.append-appended.new.self) piece e.call));
    }

pub returns-in-Err-clause-done : goal.returns-in-Err-clause-done
returns-in-Err-clause-done g c =
    let d = c.self.inside in
    let i = c.self.invariant in
    let is = c.self.view_is in
    let sound : d.torn ≡ false = c.if-self.false in
    let kept : d.lost ≡ false = c.if-self-2.false in
    let s = i.stands kept in
    let p : List ℕ = drop 4 d.stage.items in
    let long : length p ≡ length d.stage.items - 4 = length-drop 4 d.stage.items in
    let staged : c.args.self.now.staged ≡ p = ap (λ (x : Logged g.row.D.Denot). x.staged) (sym is) in
    let some : 0 < length p = omega (arith, c.requires, ap length staged) in
    let most : length p ≤ 65798 = omega (arith, i.fits) in
    let whole : g.D.Disk.held d.disk ≡ end_of s.payloads = s.whole sound in
    let end : place_of d.ends.items (length d.ends.items) ≡ end_of s.payloads = end_is _ _ s.payloads s.holds in
    let len : c.len.result ≡ length d.ends.items = search rules in
    let place : c.place.result ≡ place_of d.ends.items (length d.ends.items) = c.place.ensures ∙ ap (λ (l : List ℕ). place_of l c.len.result) c.deref.ensures.value ∙ ap (place_of d.ends.items) len in
    let items : c.fill_length.new.stage.items ≡ entry p = c.fill_length.ensures.items in
    let filled : length c.fill_length.new.stage.items ≡ 4 + length p = ap length items ∙ length-entry p in
    let size : c.len-2.result ≡ length c.fill_length.new.stage.items = search rules in
    let piece : c.deref-2.result.now ≡ entry p = c.deref-2.ensures.value ∙ items in
    let e = c.in-Err.ensures in
    let grown : GrowsByFront (g.D.Disk.bytes d.disk) (g.D.Disk.bytes c.append-appended.new.self) (g.D.Disk.held d.disk) (g.D.Disk.held c.append-appended.new.self) (entry p) =
    subst (λ l. GrowsByFront (g.D.Disk.bytes d.disk) (g.D.Disk.bytes c.append-appended.new.self) (g.D.Disk.held d.disk) (g.D.Disk.held c.append-appended.new.self) l) piece e.failed in
    let told = g.met.D.Disk.told_held d.disk in
    let there : g.D.Disk.held d.disk ≡ place_of d.ends.items (length d.ends.items) = whole ∙ sym end in
    let ends : c.args.self.now.ends ≡ d.ends.items = ap (λ (x : Logged g.row.D.Denot). x.ends) (sym is) in
    let disk : c.args.self.now.disk ≡ d.disk = ap (λ (x : Logged g.row.D.Denot). x.disk) (sym is) in
    let limit : c.args.self.now.limit ≡ d.limit = ap (λ (x : Logged g.row.D.Denot). x.limit) (sym is) in
    let none : drop 4 c.truncate-2.new.self.items ≡ [] = front_only c.fill_length.new.stage.items c.truncate-2.new.self.items c.truncate-2.ensures.items in
    let counted : c.len-count.result ≡ length d.ends.items = search rules in
    record {
      sound = (ap (λ (x : Logged g.row.D.Denot). x.torn) (sym is) ∙ sound, ap (λ (x : Logged g.row.D.Denot). x.lost) (sym is) ∙ kept);
      room = omega (arith, c.if-count-self.false, limit, ap length ends);
      now =
          ap (λ (l : List ℕ). record { disk = c.append-appended.new.self; ends = d.ends.items; staged = l; limit = d.limit; torn = true; lost = d.lost }) none
          ∙ ap (λ (v : Logged g.row.D.Denot). record { disk = c.append-appended.new.self; ends = v.ends; staged = []; limit = v.limit; torn = true; lost = v.lost }) is;
      holds = λ payloads h. holds_on (g.D.Disk.bytes d.disk) _ _ d.ends.items payloads _
          (subst (λ l. Holds (g.D.Disk.bytes d.disk) l payloads) ends (subst (λ x. Holds (g.D.Disk.bytes x) c.args.self.now.ends payloads) disk h)) told there grown.2;
      grown = subst (λ x. GrowsByFront (g.D.Disk.bytes x) (g.D.Disk.bytes c.append-appended.new.self) (g.D.Disk.held x) (g.D.Disk.held c.append-appended.new.self) (entry c.args.self.now.staged)) (sym disk)
          (subst (λ l. GrowsByFront (g.D.Disk.bytes d.disk) (g.D.Disk.bytes c.append-appended.new.self) (g.D.Disk.held d.disk) (g.D.Disk.held c.append-appended.new.self) (entry l)) (sym staged) grown);
      call = subst (λ x. g.D.Disk.appends x (entry c.args.self.now.staged) false c.append-appended.new.self) (sym disk)
          (subst (λ l. g.D.Disk.appends d.disk (entry l) false c.append-appended.new.self) (sym staged) (subst (λ l. g.D.Disk.appends d.disk l false c.append-appended.new.self) piece e.call));
      cause = subst (λ x. Rose (g.D.Disk.faults x) (g.D.Disk.faults c.append-appended.new.self)) (sym disk) e.cause.failed;
    }
