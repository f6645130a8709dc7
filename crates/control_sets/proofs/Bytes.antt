-- The control byte of a lane, path by path.
use Rattle.std.proofs.Common.{◌≡◌, ℕ, suc, ◌+◌, ◌<◌, ◌≤◌, Bool, true, false, cond, List, ◌∷◌, Some, drop, get_or, length, sym, ap, ◌∙◌, add-one}
use Rattle.std.proofs.lemmas.List.{drop_all}
use Rattle.std.proofs.Math.Seq.{drop-cons}
use Rattle.std.specs.FinSet as set
use Rattle.applications.specs.Advertised.{Advertised}
use Rattle.plan_certificate.specs.declared.path.Path.{Path}
use Rattle.plan_certificate.specs.Paths.{host_lanes}
use Rattle.control_sets.specs.ControlBytes.{byte_on, byte_saying, control_byte, control_in, path_on}

-- whether a path takes a host lane
abbrev pub takes : Advertised → ℕ → Path → Bool
takes advert lane path = set.contains (host_lanes advert path) lane

by_first : (advert : Advertised) (path : Path) (rest : List Path) (lane : ℕ) → control_byte advert (path ∷ rest) lane ≡ byte_on (cond (takes advert lane path) (Some path) (path_on advert rest lane))
unfolding control_byte
by_first advert path rest lane = λ _. byte_on (cond (takes advert lane path) (Some path) (path_on advert rest lane))

-- the path at a place takes the lane
pub byte_here : (advert : Advertised) (lane : ℕ) (paths : List Path) (k : ℕ) (d : Path) → k < length paths → takes advert lane (get_or paths k d) ≡ true →
    control_byte advert (drop k paths) lane ≡ byte_saying (control_in (get_or paths k d))
byte_here advert lane paths k d below taken =
    let path = get_or paths k d in
    let rest = drop (suc k) paths in
    ap (λ (ps : List Path). control_byte advert ps lane) (drop-cons paths k d below)
    ∙ by_first advert path rest lane
    ∙ ap (λ (b : Bool). byte_on (cond b (Some path) (path_on advert rest lane))) taken

-- it doesn't, so the later ones decide
pub byte_later : (advert : Advertised) (lane : ℕ) (paths : List Path) (k : ℕ) (d : Path) → k < length paths → takes advert lane (get_or paths k d) ≡ false →
    control_byte advert (drop k paths) lane ≡ control_byte advert (drop (k + 1) paths) lane
unfolding control_byte
byte_later advert lane paths k d below free =
    let path = get_or paths k d in
    let rest = drop (suc k) paths in
    ap (λ (ps : List Path). control_byte advert ps lane) (drop-cons paths k d below)
    ∙ by_first advert path rest lane
    ∙ ap (λ (b : Bool). byte_on (cond b (Some path) (path_on advert rest lane))) free
    ∙ ap (λ (n : ℕ). control_byte advert (drop n paths) lane) (sym (add-one k))

pub byte_none : (advert : Advertised) (lane : ℕ) (paths : List Path) (k : ℕ) → length paths ≤ k → control_byte advert (drop k paths) lane ≡ 0
unfolding control_byte
byte_none advert lane paths k past = ap (λ (ps : List Path). control_byte advert ps lane) (drop_all k paths past)
