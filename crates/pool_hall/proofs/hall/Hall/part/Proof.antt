-- `part` passes its seat and its hall on to the seat's own `part`, in the other order, and hands on what that lends.
use Rattle.atomic_table.proofs.Names.{[], ◌∷◌, refl, List, ap, a_type, dcons, dnil, named, Val, vptr, inst_fn, SProp, id⊢, ‵, raw, ◌⊛◌, ◌$◌, ◌∵◌, !, qed, by, keep, split, fjoin, move, drop, fsplit, join, use1, use2, feq_i, feq_l, some, later, pick, await, no_more, and_then, returns, enter, stop, addr, alloc_all, pass_all, free_all, look_at, get, sets, through, lands_as, tables, RattleType, plain, type_at, nothing, only, param, bounded, alive, walk_of, Stays, stay_dropped, Goes-dropped, Goes-spent_ref, fact, ftrue, Fml, fsep, no, yes, mut_vals, mut_Tells, shr_vals, shr_Tells, RefMutOf, RefOf, follows, calls_at, triple_of}
use Rattle.atomic_table.proofs.Walks.{proved, leaves}
use denote.Triple.Table.{framed}
use denote.Triple.Clauses.{lasts}
use denote.MutBor.{MutBor}
use Rattle.pool_hall.specs.contracts.hall.Hall as hall
use Rattle.pool_hall.specs.contracts.hall.HallSeat as seat
use Rattle.pool_hall.specs.Seat.{HasPart, with_part}
use Rattle.pool_hall.specs.contracts.hall.Hall.part as f
use Rattle.pool_hall.proofs.hall.Hall.part.Statement.{statement}
use Rattle.pool_hall.proofs.hall.Hall.part.Code as code
use Rattle.pool_hall.specs.contracts.hall.HallSeat.part as g
use Rattle.pool_hall.proofs.hall.HallSeat.part.Met.{met}

pub part_spec : {M : Type 1} → statement M
part_spec 𝓤 𝓛 𝓜 𝓡 wired T L P d e b1 b2 =
    let En = f.ended T P d e in
    let c = f.clauses T P d e 𝓛 𝓜.mem 𝓡.returns in
    let R : RattleType = param 0 T in
    let Row : RattleType = hall.the_row R P in
    let Sr : RattleType = seat.the_row R in
    let hall_ref = RefOf (0 ∷ []) tt (plain (λ _. Row)) (λ _. tt) in
    let seat_ref = RefMutOf (0 ∷ []) tt (plain (λ _. Sr)) (λ _. tt) in
    let hs : Stays En.signature.params En.kept = (stay_dropped hall_ref yes, (stay_dropped seat_ref no, tt)) in
    let inst = bounded (a_type ∷ []) (T, tt) (dcons d (dcons e dnil)) in
    let fn = inst_fn inst code.function in
    proved 𝓛 En hs c 𝓜 𝓡 (Goes-dropped 𝓛 2 hall_ref yes (λ κs x w. refl), (Goes-spent_ref 𝓛 2 (0 ∷ []) tt (plain (λ _. Sr)), tt)) (f.Key.name inst) fn (code.unfolded 𝓤 𝓛.H 𝓜 𝓡 wired (T, tt) d e)
    (λ κs. (shr_vals, (mut_vals, tt))) (λ κs. (shr_Tells (named 0) κs.0 Row, (mut_Tells (named 0) κs.0 Sr, tt))) (λ κs qs bounds a gh are.
    let y : (walk_of 𝓛 En hs c).Ghost = ((κs, qs, bounds, a, (shr_vals a.0, (mut_vals a.1.0, tt))), gh) in
    let Alive : SProp 𝓤 = alive 𝓛 En.signature κs qs in
    let Hall : Fml = (type_at hall_ref κs).own_val a.0 (shr_vals a.0) in
    let Seat : Fml = (type_at seat_ref κs).own_val a.1.0 (mut_vals a.1.0) in
    let Asked : SProp 𝓤 = (c κs a).requires gh in
    let G = triple_of 𝓛 (g.signature T P d e) (g.spec T P d e 𝓛 𝓜.mem 𝓡.returns) in
    let z : G.Ghost = ((κs, qs, bounds, (a.1.0, (a.0, tt)), (mut_vals a.1.0, (shr_vals a.0, tt))), tt) in
    qed 𝓛 ((raw Alive ⊛ ‵ (fsep Hall (fsep Seat ftrue))) ∷ raw Asked ∷ []) ∵ split ! $ move ! (1 ∷ []) $ fsplit ! $ move ! (1 ∷ []) $ fsplit ! $
    -- [the seat; nothing; the hall; the tokens; what is asked]
    move ! (2 ∷ 1 ∷ []) $ fjoin ! $ move ! (1 ∷ 0 ∷ []) $ fjoin ! $ move ! (1 ∷ 0 ∷ []) $ join ! $ use2 𝓛 (raw (G.pre z)) (id⊢ 𝓤 _) $
    enter ! _ _ _ _ _ $ alloc_all ! (λ l. pass_all ! refl ((tt, tt), ((tt, tt), tt)) $
    sets ! (addr ! (through ! refl (stop !))) refl (tt, tt) $
    calls_at ! (framed 𝓤 𝓛.H 𝓜 (tables 𝓤 𝓛.H 𝓜 𝓡 𝓡.env)) G (met 𝓤 𝓛 𝓜 𝓡 (code.calls-pool_hall::hall::HallSeat::part 𝓡.env wired) T L P d e b1 b2) z (and_then ! (get ! refl) (and_then ! (get ! refl) (no_more !))) (λ v.
    use1 𝓛 (later (some (λ (r : MutBor T.Denot). (raw Alive ⊛ ‵ ((type_at En.signature.result κs).own_val r (v ∷ []))) ⊛
    some (λ (ws : Unit {0} × (Unit {0} × Unit {0})). ‵ (lasts (g.ended T P d e) κs (a.1.0, (a.0, tt)) ws) ⊛ (‵ (follows Sr R a.1.0.ghost_name r.ghost_name (with_part a.1.0.now)) ⊛ raw (fact 𝓤 (HasPart a.1.0.now r.now))))))) (id⊢ 𝓤 _) $
    await ! tt $ pick ! (λ r. split ! $ split ! $ move ! (1 ∷ []) $ fsplit ! $ feq_l ! (λ is.
    lands_as ! (ap only is) refl (tt, tt) $
    -- [what the result borrows; the tokens; what the callee ensures]
    returns ! (look_at ! 0 refl) $ free_all ! refl $ move ! (2 ∷ []) $ pick ! (λ ws. split ! $ drop ! $
    let out : Val = vptr r.ref_ptr.0 r.ref_ptr.1 in
    move ! (1 ∷ []) $ feq_i ! (List Val) (out ∷ []) (out ∷ []) refl $ fjoin ! $ nothing ! $ nothing ! $ fjoin ! $ nothing ! $ fjoin ! $
    -- [nothing of the parameters; the result; what is ensured; the tokens]
    keep ! (3 ∷ 0 ∷ 1 ∷ 2 ∷ []) $ by ! (leaves 𝓛 En hs c y out r (tt, (tt, tt)) (tt, (tt, tt)))))))))
