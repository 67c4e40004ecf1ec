-- What is noted, with one call more that isn't read, or that is local.
use Rattle.std.proofs.Common.{◌≡◌, ◌∙◌, ◌++◌, ◌∷◌, [], ℕ, Bool, true, false, cond, List, Option, Some, None, ap, sym, refl, set, get_or}
use Rattle.mpi_model.specs.Failures.{one_more}
use Rattle.mpi_model.specs.declared.call.Call.{Call}
use Rattle.mpi_model.specs.declared.event.Event.{Event}
use Rattle.dumpi_calls.specs.Collected.{collected}
use Rattle.dumpi_calls.specs.Rows.{Callback, OnOther, OnUnread}
use Rattle.dumpi_calls.specs.Seen.{Seen}
use Rattle.text_notes.specs.Noted.{LookNeeds, Noted, UnreadParts, counted, is_local, last_size_with, noted, with_call, with_count, with_local_call, with_needs}
use Rattle.text_notes.specs.Places.{place_of}
use Rattle.text_notes.proofs.Found.{counted_at, counted_last}

same : (events more : List Event) (calls next : ℕ) (unread counts : List UnreadParts) (needs now : LookNeeds) → events ≡ more → calls ≡ next → unread ≡ counts → needs ≡ now
    → ◌≡◌ {A = Noted} (record { events = events; calls = calls; unread = unread; needs = needs }) (record { events = more; calls = next; unread = counts; needs = now })
same events more calls next unread counts needs now e c u n = rw (e, c, u, n) refl

-- its function is listed
pub noted_at : (old : Noted) (call : Seen) (name : List ℕ) (at : ℕ) (was now : UnreadParts) (events : List Event) (calls : ℕ)
    → call.callback ≡ OnUnread name → place_of name old.unread ≡ Some at → was ≡ get_or old.unread at was → now ≡ with_count 1 was
    → events ≡ collected old.events call → calls ≡ one_more old.calls
    → ◌≡◌ {A = Noted} (record { events = events; calls = calls; unread = set old.unread at now; needs = old.needs }) (noted old call)
noted_at old call name at was now events calls is place item more e c =
    let counts : set old.unread at now ≡ counted old.calls 1 name old.unread =
    ap (λ (f : UnreadParts). set old.unread at f) (more ∙ ap (λ (f : UnreadParts). with_count 1 f) item) ∙ sym (counted_at old.calls 1 name old.unread at was place) in
    same events (collected old.events call) calls (one_more old.calls) (set old.unread at now) (with_call old.calls call.callback old.unread)
    old.needs (with_needs old.calls call.callback call.call old.needs) e c
    (counts ∙ ap (λ (b : Callback). with_call old.calls b old.unread) (sym is))
    (ap (λ (b : Callback). with_needs old.calls b call.call old.needs) (sym is))

-- it isn't
pub noted_last : (old : Noted) (call : Seen) (name : List ℕ) (function : UnreadParts) (unread : List UnreadParts) (events : List Event) (calls : ℕ)
    → call.callback ≡ OnUnread name → place_of name old.unread ≡ None → ◌≡◌ {A = UnreadParts} function (record { name = name; first = old.calls; count = 1 })
    → unread ≡ old.unread ++ function ∷ [] → events ≡ collected old.events call → calls ≡ one_more old.calls
    → ◌≡◌ {A = Noted} (record { events = events; calls = calls; unread = unread; needs = old.needs }) (noted old call)
noted_last old call name function unread events calls is place new more e c =
    let counts : unread ≡ counted old.calls 1 name old.unread =
    more ∙ ap (λ (f : UnreadParts). old.unread ++ f ∷ []) new ∙ sym (counted_last old.calls 1 name old.unread place) in
    same events (collected old.events call) calls (one_more old.calls) unread (with_call old.calls call.callback old.unread)
    old.needs (with_needs old.calls call.callback call.call old.needs) e c
    (counts ∙ ap (λ (b : Callback). with_call old.calls b old.unread) (sym is))
    (ap (λ (b : Callback). with_needs old.calls b call.call old.needs) (sym is))

-- ---- a call of any other function

-- a local call
local_so : (number : ℕ) (name : List ℕ) (call : Call) (needs : LookNeeds) (local : List UnreadParts) (size : Option ℕ) → is_local call ≡ true
    → local ≡ counted number 1 name needs.local → size ≡ last_size_with number name needs.last_size
    → ◌≡◌ {A = LookNeeds} (record { local = local; last_size = size; compares = needs.compares }) (with_needs number (OnOther name) call needs)
local_so number name call needs local size is l s =
    let so : ◌≡◌ {A = LookNeeds} (record { local = local; last_size = size; compares = needs.compares }) (with_local_call number name needs) = rw (l, s) refl in
    so ∙ ap (λ (b : Bool). cond b (with_local_call number name needs) needs) (sym is)

-- a call that isn't local
pub other_noted : (old : Noted) (call : Seen) (name : List ℕ) (events : List Event) (calls : ℕ)
    → call.callback ≡ OnOther name → is_local call.call ≡ false → events ≡ collected old.events call → calls ≡ one_more old.calls
    → ◌≡◌ {A = Noted} (record { events = events; calls = calls; unread = old.unread; needs = old.needs }) (noted old call)
other_noted old call name events calls is not e c =
    same events (collected old.events call) calls (one_more old.calls) old.unread (with_call old.calls call.callback old.unread)
    old.needs (with_needs old.calls call.callback call.call old.needs) e c
    (ap (λ (b : Callback). with_call old.calls b old.unread) (sym is))
    (ap (λ (b : Bool). cond b (with_local_call old.calls name old.needs) old.needs) (sym not) ∙ ap (λ (b : Callback). with_needs old.calls b call.call old.needs) (sym is))

local_noted : (old : Noted) (call : Seen) (name : List ℕ) (local : List UnreadParts) (size : Option ℕ) (events : List Event) (calls : ℕ)
    → call.callback ≡ OnOther name → is_local call.call ≡ true → local ≡ counted old.calls 1 name old.needs.local → size ≡ last_size_with old.calls name old.needs.last_size
    → events ≡ collected old.events call → calls ≡ one_more old.calls
    → ◌≡◌ {A = Noted} (record { events = events; calls = calls; unread = old.unread; needs = record { local = local; last_size = size; compares = old.needs.compares } }) (noted old call)
local_noted old call name local size events calls is loc l s e c =
    same events (collected old.events call) calls (one_more old.calls) old.unread (with_call old.calls call.callback old.unread)
    (record { local = local; last_size = size; compares = old.needs.compares }) (with_needs old.calls call.callback call.call old.needs) e c
    (ap (λ (b : Callback). with_call old.calls b old.unread) (sym is))
    (local_so old.calls name call.call old.needs local size loc l s ∙ ap (λ (b : Callback). with_needs old.calls b call.call old.needs) (sym is))

-- a local call of a function that is listed
pub local_at : (old : Noted) (call : Seen) (name : List ℕ) (at : ℕ) (was now : UnreadParts) (size : Option ℕ) (events : List Event) (calls : ℕ)
    → call.callback ≡ OnOther name → is_local call.call ≡ true → place_of name old.needs.local ≡ Some at → was ≡ get_or old.needs.local at was → now ≡ with_count 1 was
    → size ≡ last_size_with old.calls name old.needs.last_size → events ≡ collected old.events call → calls ≡ one_more old.calls
    → ◌≡◌ {A = Noted} (record { events = events; calls = calls; unread = old.unread; needs = record { local = set old.needs.local at now; last_size = size; compares = old.needs.compares } }) (noted old call)
local_at old call name at was now size events calls is loc place item more s e c =
    local_noted old call name (set old.needs.local at now) size events calls is loc
    (ap (λ (f : UnreadParts). set old.needs.local at f) (more ∙ ap (λ (f : UnreadParts). with_count 1 f) item) ∙ sym (counted_at old.calls 1 name old.needs.local at was place)) s e c

-- of one that isn't
pub local_last : (old : Noted) (call : Seen) (name : List ℕ) (function : UnreadParts) (local : List UnreadParts) (size : Option ℕ) (events : List Event) (calls : ℕ)
    → call.callback ≡ OnOther name → is_local call.call ≡ true → place_of name old.needs.local ≡ None → ◌≡◌ {A = UnreadParts} function (record { name = name; first = old.calls; count = 1 })
    → local ≡ old.needs.local ++ function ∷ [] → size ≡ last_size_with old.calls name old.needs.last_size → events ≡ collected old.events call → calls ≡ one_more old.calls
    → ◌≡◌ {A = Noted} (record { events = events; calls = calls; unread = old.unread; needs = record { local = local; last_size = size; compares = old.needs.compares } }) (noted old call)
local_last old call name function local size events calls is loc place new more s e c =
    local_noted old call name local size events calls is loc
    (more ∙ ap (λ (f : UnreadParts). old.needs.local ++ f ∷ []) new ∙ sym (counted_last old.calls 1 name old.needs.local place)) s e c
