-- Examples of our own, for rules that the twelve don't touch.
use Rattle.std.specs.Prelude.{List, [], ◌∷◌, T}
use Rattle.functions.specs.Computes.{functions·computes}
use Rattle.functions.specs.Lists.{all}
use Rattle.ast.specs.Computes.{ast·computes}
use Rattle.ast.specs.Tree.{name, number, unary, call, empty, range, named}
use Rattle.definitions.specs.Computes.{definitions·computes}
use Rattle.definitions.specs.Variables.{infinity}
use Rattle.definitions.specs.Models.{z, span, t, x, y, s, u, R, M, N, sin, non_negative, one, minus_one, nan, num, var, ◌+pos◌, keyed, app, ◌≐◌, dot, into_model, into, unknown, over, plain, model, root, xt, decay, start, refuses, answers, says, Row, row, meets}

-- ---- variables: t first, then x and y as they are declared

-- t from -1, x(t); dot(x)=-x; x(0)=1: time begins at -1, but the variable t goes from 0 to infinity
abbrev own_bounds : Row
own_bounds = row (root (unknown t [] (range minus_one infinity) ∷ xt ∷ []) (decay ∷ start (num 0) ∷ []) ∷ []) 1000
    (says ((6, 0) ∷ (7, 0xbff0_0000) ∷ (82, 0) ∷ (83, 0) ∷ (84, 0) ∷ (85, 0x7ff0_0000) ∷ []))

-- t from -1 to 1, t, x(t); dot(x)=-x; x(0)=1: the last t wins, and without a domain time begins at 0; no error
abbrev time_from_zero : Row
time_from_zero = row (root (unknown t [] (range minus_one one) ∷ plain t ∷ xt ∷ []) (decay ∷ start (num 0) ∷ []) ∷ []) 1000
    (says ((4, 0) ∷ (6, 0) ∷ (7, 0) ∷ (8, 0) ∷ (9, 0x7ff0_0000) ∷ []))

-- t(x), x; dot(t)=1: t takes the dependents, is a state and holds it; it has no time index, hence error 16
abbrev time_depends : Row
time_depends = row (root (over t (x ∷ []) ∷ plain x ∷ []) (dot t (num one) ∷ []) ∷ []) 1000 (answers (16 ∷ []) (2 ∷ []) 1 1 220)

-- x in NonNegative, y in R, s in M: 0 to infinity, unbounded, and unbounded with error 1, which names M
abbrev domains : Row
domains = row (root (unknown x [] (named non_negative) ∷ unknown y [] (named R) ∷ unknown s [] (named M) ∷ []) [] ∷ []) 1000
    (says ((4, 1) ∷ (30, 0) ∷ (31, 0) ∷ (33, 0x7ff0_0000) ∷ (43, 0xfff0_0000) ∷ (45, 0x7ff0_0000) ∷ (55, 0xfff0_0000) ∷ (57, 0x7ff0_0000) ∷ (58, 1) ∷ (61, 8) ∷ []))

-- t in M, u in M: error 1 of t, which is no error 2; of u error 1, then 2
abbrev domain_first : Row
domain_first = row (root (unknown t [] (named M) ∷ unknown u [] (named M) ∷ []) [] ∷ []) 1000 (answers (1 ∷ 1 ∷ 2 ∷ []) [] 0 1 136)

-- x(t) from -1 to 1, x(y, t) from 0 to 1, y: x is one variable, with dependents t y t, time index 2 and the last bounds
abbrev declared_twice : Row
declared_twice = row (root (unknown x (t ∷ []) (range minus_one one) ∷ unknown x (y ∷ t ∷ []) (range 0 one) ∷ plain y ∷ []) [] ∷ []) 1000
    (says ((2, 3) ∷ (24, 3) ∷ (26, 3) ∷ (30, 0) ∷ (31, 0) ∷ (32, 0) ∷ (33, 0x3ff0_0000) ∷ (46, 0) ∷ (47, 2) ∷ (48, 0) ∷ []))

-- x(t, y, t), y; x(1, 1, 0)=1; dot(x)=1: time index 2, the last t's (word 112 has it plus 1), so fates 1 2 and no error
abbrev last_times : Row
last_times = row (root (over x (t ∷ y ∷ t ∷ []) ∷ plain y ∷ []) ((call x (empty +pos num one +pos num one +pos num 0) z ≐ num one) ∷ dot x (num one) ∷ []) ∷ []) 1000
    (says ((4, 0) ∷ (88, 1) ∷ (96, 2) ∷ (112, 3) ∷ []))

-- x(s, t); x(0)=1; dot(x)=1: s is no variable and passed over, so time's place is the first
abbrev passed_over : Row
passed_over = row (root (over x (s ∷ t ∷ []) ∷ []) (start (num 0) ∷ dot x (num one) ∷ []) ∷ []) 1000 (answers [] (1 ∷ 2 ∷ []) 5 1 364)

-- x(y), y(t); dot(x)=1; y=1: x is time-dependent through y, so no error 13; with no t of its own it has no time index, hence 16
abbrev through_other : Row
through_other = row (root (over x (y ∷ []) ∷ over y (t ∷ []) ∷ []) (dot x (num one) ∷ (var y ≐ num one) ∷ []) ∷ []) 1000 (answers (16 ∷ []) (2 ∷ 2 ∷ []) 3 1 368)

-- ---- submodels

-- M(y, s, x(t)): x(s)=1; root x(t): M(y=1, 0); dot(x)=-x: error 4, and 0 is argument number 1, which replaces s
abbrev keyword_counted : Row
keyword_counted = row (model M (plain y ∷ plain s ∷ xt ∷ []) (start (var s) ∷ []) ∷ root (xt ∷ []) (into (keyed empty y (num one) +pos num 0) ∷ decay ∷ []) ∷ []) 1000
    (answers (4 ∷ []) (1 ∷ 2 ∷ []) 6 2 412)

-- M(s): s=1; root x(t): M(y): clean, since a submodel's statements aren't rechecked against the root
abbrev not_rechecked : Row
not_rechecked = row (model M (plain s ∷ []) ((var s ≐ num one) ∷ []) ∷ root (xt ∷ []) (into (empty +pos var y) ∷ []) ∷ []) 1000 (answers [] (2 ∷ []) 2 2 236)

-- M(t, u, s, x(t)): x(s)=1; root x(t): M(1, 1, 0); dot(x)=-x: error 2 of u, and 0 replaces s, as t and u are counted
abbrev declared_counted : Row
declared_counted =
    row (model M (plain t ∷ plain u ∷ plain s ∷ xt ∷ []) (start (var s) ∷ []) ∷ root (xt ∷ []) (into (empty +pos num one +pos num one +pos num 0) ∷ decay ∷ []) ∷ []) 1000
    (answers (2 ∷ []) (1 ∷ 2 ∷ []) 6 2 412)

-- M(s, x(t)): x(s)=1; root x(t): M(1, s=0); dot(x)=-x: the later wins
abbrev later_wins : Row
later_wins = row (model M (plain s ∷ xt ∷ []) (start (var s) ∷ []) ∷ root (xt ∷ []) (into (keyed (empty +pos num one) s (num 0)) ∷ decay ∷ []) ∷ []) 1000
    (answers [] (1 ∷ 2 ∷ []) 6 2 396)

-- M(x(t)): x(s)=1; root x(t): M(s=0); dot(x)=-x: error 5 of s in M, and the keyword replaces s, though no unknown bears it
abbrev unknown_keyword : Row
unknown_keyword = row (model M (xt ∷ []) (start (var s) ∷ []) ∷ root (xt ∷ []) (into (keyed empty s (num 0)) ∷ decay ∷ []) ∷ []) 1000 (answers (5 ∷ []) (1 ∷ 2 ∷ []) 6 2 412)

-- M(s, y): s=y; root x(t): M(y, x): y=x comes out, both replaced at once
abbrev at_once : Row
at_once = row (model M (plain s ∷ plain y ∷ []) ((var s ≐ var y) ∷ []) ∷ root (xt ∷ []) (into (empty +pos var y +pos var x) ∷ []) ∷ []) 1000
    (says ((10, 1) ∷ (11, 2) ∷ (18, 1) ∷ (19, 1) ∷ []))

-- M(x(t)): dot(x)=x; x(0)=1; root x(t): M(y): dot(x)=y; x(0)=1 comes out: neither the rate equation's name nor the call's is replaced
abbrev names_stay : Row
names_stay = row (model M (xt ∷ []) (dot x (var x) ∷ start (num 0) ∷ []) ∷ root (xt ∷ []) (into (empty +pos var y) ∷ []) ∷ []) 1000
    (says ((4, 0) ∷ (11, 2) ∷ (35, 1) ∷ (51, 1) ∷ (56, 2) ∷ (64, 1) ∷ []))

-- M(s): s=1; root x(t): M(-x): -x=1 comes out, with the span of s on the minus and its own on the x below
abbrev top_span : Row
top_span = row (model M (plain s ∷ []) ((name s (span 1 2) ≐ num one) ∷ []) ∷ root (xt ∷ []) (into (empty +pos unary 45 (name x (span 4 5)) (span 3 5)) ∷ []) ∷ []) 1000
    (says ((10, 1) ∷ (11, 1) ∷ (14, 4) ∷ (15, 5) ∷ (18, 4) ∷ (20, 45) ∷ (22, 1) ∷ (23, 2) ∷ []))

-- N(y): y=1; M(s): N(s); root x(t): M(x): x=1 comes out of the third model, with the span of y; 3 instances, held, no error
abbrev three_deep : Row
three_deep =
    row
    (model N (plain y ∷ []) ((name y (span 5 6) ≐ num one) ∷ []) ∷ model M (plain s ∷ []) (into_model N (empty +pos name s (span 3 4)) ∷ [])
    ∷ root (xt ∷ []) (into (empty +pos name x (span 1 2)) ∷ []) ∷ []) 1000
    (says ((1, 1) ∷ (4, 0) ∷ (5, 3) ∷ (10, 1) ∷ (11, 1) ∷ (14, 5) ∷ (15, 6) ∷ (18, 2) ∷ (25, 0x3ff0_0000) ∷ (32, 2) ∷ []))

-- M(u, s); root: M(s=1, 1); M(s=1, 1): of each instance the model's own error 2, then 4
abbrev own_errors_first : Row
own_errors_first = row (model M (plain u ∷ plain s ∷ []) [] ∷ root [] (into (keyed empty s (num one) +pos num one) ∷ into (keyed empty s (num one) +pos num one) ∷ []) ∷ []) 1000
    (answers (2 ∷ 4 ∷ 2 ∷ 4 ∷ []) [] 0 3 152)

-- root: M(s=1, 0), and no M: error 3 alone, and no instance
abbrev missing : Row
missing = row (root [] (into (keyed empty s (num one) +pos num 0) ∷ []) ∷ []) 1000 (answers (3 ∷ []) [] 0 1 104)

-- M; M(x(x)); root: M(); R(x(x)): the first M and the first R are meant
abbrev first_meant : Row
first_meant = row (model M [] [] ∷ model M (over x (x ∷ []) ∷ []) [] ∷ root [] (into empty ∷ []) ∷ root (over x (x ∷ []) ∷ []) [] ∷ []) 1000 (answers [] [] 0 2 88)

-- ---- expressions

-- x(t); y(x)=s: of the right side error 5, then of the left 11
abbrev right_first : Row
right_first = row (root (xt ∷ []) ((app y (var x) ≐ var s) ∷ []) ∷ []) 1000 (answers (5 ∷ 11 ∷ []) (2 ∷ []) 4 1 332)

-- x(t); x=sin(x=s, s): errors 6 and 7 of the call, then 5 of each argument
abbrev built_in_call : Row
built_in_call = row (root (xt ∷ []) ((var x ≐ call sin (keyed empty x (var s) +pos var s) z) ∷ []) ∷ []) 1000 (answers (6 ∷ 7 ∷ 5 ∷ 5 ∷ []) (2 ∷ []) 6 1 428)

-- x(t); x=x(y=1, 0): errors 8, 9 and 10
abbrev variable_call : Row
variable_call = row (root (xt ∷ []) ((var x ≐ call x (keyed empty y (num one) +pos num 0) z) ∷ []) ∷ []) 1000 (answers (8 ∷ 9 ∷ 10 ∷ []) (2 ∷ []) 6 1 412)

-- ---- who holds which

-- x(t, y), y; x(y=0, t=1)=1; dot(x)=1: an initial condition by the place of time, whatever keyword stands there
abbrev by_place : Row
by_place = row (root (over x (t ∷ y ∷ []) ∷ plain y ∷ []) ((call x (keyed (keyed empty y (num 0)) t (num one)) z ≐ num one) ∷ dot x (num one) ∷ []) ∷ []) 1000
    (answers [] (1 ∷ 2 ∷ []) 7 1 480)

-- sin(t); dot(sin)=1; sin(0)=1: as for any other name
abbrev built_in_start : Row
built_in_start = row (root (over sin (t ∷ []) ∷ []) (dot sin (num one) ∷ (app sin (num 0) ≐ num one) ∷ []) ∷ []) 1000 (answers [] (2 ∷ 1 ∷ []) 5 1 364)

-- P1 with t from NaN and x(NaN)=1: a NaN equals nothing, so errors 12 15 16
abbrev not_a_number : Row
not_a_number = row (root (unknown t [] (range nan infinity) ∷ xt ∷ []) (decay ∷ start (num nan) ∷ []) ∷ []) 1000 (answers (12 ∷ 15 ∷ 16 ∷ []) (2 ∷ 4 ∷ []) 6 1 444)

-- x(t), y(t); x=1; dot(s)=1; x(0)=1: dot(s) is error 5 and stays among those left, paired with y; 17 on x, 16 on y
abbrev paired_rate : Row
paired_rate = row (root (xt ∷ over y (t ∷ []) ∷ []) ((var x ≐ num one) ∷ dot s (num one) ∷ start (num 0) ∷ []) ∷ []) 1000 (answers (5 ∷ 17 ∷ 16 ∷ []) (2 ∷ 2 ∷ 1 ∷ []) 7 1 560)

-- x(y), y; dot(x)=1: error 13, yet paired with x, which is not time-dependent; 16 on it
abbrev paired_invalid : Row
paired_invalid = row (root (over x (y ∷ []) ∷ plain y ∷ []) (dot x (num one) ∷ []) ∷ []) 1000 (answers (13 ∷ 16 ∷ []) (2 ∷ []) 1 1 284)

-- x(t); x=1; x(0)=1; x(0)=1: error 17 of x, at the first condition's right side
abbrev first_condition : Row
first_condition = row (root (xt ∷ []) ((var x ≐ num one) ∷ (app x (num 0) ≐ number one (span 1 2)) ∷ (app x (num 0) ≐ number one (span 3 4)) ∷ []) ∷ []) 1000
    (says ((4, 1) ∷ (139, 17) ∷ (140, 1) ∷ (141, 2) ∷ (142, 2) ∷ []))

-- ---- refusals

-- P1 in 395 bytes: 1
abbrev short_by_one : Row
short_by_one = row (root (xt ∷ []) (decay ∷ start (num 0) ∷ []) ∷ []) 395 (refuses 1)

-- M calls N, N calls M: 6, also where the root x(x) is 7
abbrev long_cycle : Row
long_cycle = row (root (over x (x ∷ []) ∷ []) (into empty ∷ []) ∷ model M [] (into_model N empty ∷ []) ∷ model N [] (into empty ∷ []) ∷ []) 0 (refuses 6)

-- M(x(x)); root: M(0, 0): 7, also where the arguments are 8
abbrev reached_listed : Row
reached_listed = row (model M (over x (x ∷ []) ∷ []) [] ∷ root [] (into (empty +pos num 0 +pos num 0) ∷ []) ∷ []) 0 (refuses 7)

-- M(x(x)) that is not reached: accepted
abbrev not_reached : Row
not_reached = row (model M (over x (x ∷ []) ∷ []) [] ∷ root [] [] ∷ []) 1000 (answers [] [] 0 1 88)

-- M(s); root x(t): M(s=1, 0); x()=1: 8, as the keyword is counted; also where x() is 10
abbrev beyond : Row
beyond = row (model M (plain s ∷ []) [] ∷ root (xt ∷ []) (into (keyed empty s (num one) +pos num 0) ∷ (call x empty z ≐ num one) ∷ []) ∷ []) 0 (refuses 8)

-- M(s); root: M(0, s=1): accepted, as a keyword's own number is no matter
abbrev not_beyond : Row
not_beyond = row (model M (plain s ∷ []) [] ∷ root [] (into (keyed (empty +pos num 0) s (num one)) ∷ []) ∷ []) 1000 (answers [] [] 0 2 88)

pub own_table : List Row
own_table =
    own_bounds ∷ time_from_zero ∷ time_depends ∷ domains ∷ domain_first ∷ declared_twice ∷ last_times ∷ passed_over ∷ through_other
    ∷ keyword_counted ∷ not_rechecked ∷ declared_counted ∷ later_wins ∷ unknown_keyword ∷ at_once ∷ names_stay ∷ top_span ∷ three_deep ∷ own_errors_first ∷ missing ∷ first_meant
    ∷ right_first ∷ built_in_call ∷ variable_call ∷ by_place ∷ built_in_start ∷ not_a_number ∷ paired_rate ∷ paired_invalid ∷ first_condition
    ∷ short_by_one ∷ long_cycle ∷ reached_listed ∷ not_reached ∷ beyond ∷ not_beyond ∷ []

pub own_examples : T (all meets own_table)
unfolding own_table functions·computes ast·computes definitions·computes
own_examples = tt
