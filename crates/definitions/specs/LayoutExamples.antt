-- Areas that keep their layout, and areas that differ from one in one thing and break it, for each word of the sentence on the layout: one table with one proof.
use Rattle.std.specs.Prelude.{ℕ, ◌+◌, ◌*◌, Bool, not, List, [], ◌∷◌, ◌++◌, T, take, drop, replicate}
use Rattle.functions.specs.Computes.{functions·computes}
use Rattle.functions.specs.Lists.{all, each}
use Rattle.ast.specs.Computes.{ast·computes}
use Rattle.ast.specs.Tree.{call, empty, unstated, Model}
use Rattle.ast.specs.Words.{bytes4, bytes_of}
use Rattle.definitions.specs.Computes.{definitions·computes}
use Rattle.definitions.specs.Layout.{Layout, plain, most_kind, counts_fit, keeps_layout}
use Rattle.definitions.specs.Build.{result_area}
use Rattle.definitions.specs.Models.{z, x, y, log10, one, num, var, ◌+pos◌, dot, unknown, root, xt, decay, start, built}

-- ---- areas

abbrev area_of : ℕ → List Model → List ℕ
area_of room ms = result_area room (built ms room)

-- P1: 6 nodes, 2 statements, the variables t and x, 1 dependent. Its trees: x; -x; 0, argument, x(0); 1.
abbrev p1 : List ℕ
p1 = area_of 396 (root (xt ∷ []) (decay ∷ start (num 0) ∷ []) ∷ [])

-- P2: the same with 3 errors
abbrev p2 : List ℕ
p2 = area_of 444 (root (xt ∷ []) (decay ∷ start (num one) ∷ []) ∷ [])

-- P6: 1 node, 1 statement, the variables t, x and y
abbrev p6 : List ℕ
p6 = area_of 288 (root (unknown x (y ∷ []) unstated ∷ unknown y (x ∷ []) unstated ∷ []) (dot x (num one) ∷ []) ∷ [])

-- P7: 9 nodes, and the tree of its statement 0 is a call
abbrev p7 : List ℕ
p7 = area_of 524 (root (xt ∷ []) (dot x (call log10 (empty +pos var x +pos var x) z) ∷ start (num 0) ∷ []) ∷ [])

-- no records but n errors, where the header counts `errors`
abbrev listing : ℕ → ℕ → List ℕ
listing errors n = bytes_of (0 ∷ 0 ∷ 0 ∷ 0 ∷ errors ∷ 0 ∷ 0 ∷ 0 ∷ 0 ∷ 0 ∷ []) ++ each (λ e. bytes_of e) (replicate n (1 ∷ 0 ∷ 0 ∷ 0 ∷ []))

-- The area b but for one word: its number, and what it is.
infixl 30 ◌but◌
unfoldable ◌but◌ : List ℕ → ℕ × ℕ → List ℕ
b but w = take (4 * w.0) b ++ bytes4 w.1 ++ drop (4 * w.0 + 4) b

-- ---- the numbers of words of P1 and P2

abbrev instances : ℕ
instances = 5

-- word k of node i, of statement i, of variable i, of error i
abbrev node : ℕ → ℕ → ℕ
node i k = 10 + 8 * i + k

abbrev stmt : ℕ → ℕ → ℕ
stmt i k = 58 + 8 * i + k

abbrev variable : ℕ → ℕ → ℕ
variable i k = 74 + 12 * i + k

abbrev dependent : ℕ
dependent = 98

abbrev error : ℕ → ℕ → ℕ
error i k = 99 + 4 * i + k

-- ---- the table

abbrev keeps : List ℕ → Bool
keeps b = keeps_layout plain most_kind b

abbrev breaks : List ℕ → Bool
breaks b = not (keeps b)

-- Counts are within the mosts: headers of nodes, statements, variables, dependents, errors, instances; and an area.
abbrev counts : List Bool
counts =
    counts_fit (1024 ∷ 256 ∷ 129 ∷ 1024 ∷ 4294967295 ∷ 1024 ∷ [])
    ∷ not (counts_fit (1025 ∷ 0 ∷ 0 ∷ 0 ∷ 0 ∷ 0 ∷ []))
    ∷ not (counts_fit (0 ∷ 257 ∷ 0 ∷ 0 ∷ 0 ∷ 0 ∷ []))
    ∷ not (counts_fit (0 ∷ 0 ∷ 130 ∷ 0 ∷ 0 ∷ 0 ∷ []))
    ∷ not (counts_fit (0 ∷ 0 ∷ 0 ∷ 1025 ∷ 0 ∷ 0 ∷ []))
    ∷ not (counts_fit (0 ∷ 0 ∷ 0 ∷ 0 ∷ 0 ∷ 1025 ∷ []))
    ∷ keeps (p1 but (instances, 1024)) ∷ breaks (p1 but (instances, 1025)) ∷ []

-- Sections fit with zeros behind; under 40 bytes nothing fits. All errors are counted, the first 256 are listed.
abbrev sections : List Bool
sections =
    keeps p1 ∷ breaks (take 395 p1)
    ∷ keeps (p1 ++ replicate 7 0) ∷ breaks (p1 ++ 1 ∷ []) ∷ breaks (p1 ++ replicate 1000 0 ++ 1 ∷ [])
    ∷ keeps (replicate 40 0) ∷ breaks (replicate 39 0) ∷ breaks []
    ∷ keeps (listing 256 256) ∷ breaks (listing 256 255) ∷ breaks (listing 255 256) ∷ keeps (listing 257 256) ∷ breaks (listing 257 257) ∷ []

-- Another layout, with a header of 12 words and variable records of 14: no records at all, and the variables 0 and 1 alone.
abbrev longer : List Bool
longer =
    let l : Layout = record { header_length = 12; variable_length = 14 } in
    keeps_layout l most_kind (replicate 48 0) ∷ not (keeps_layout l most_kind (replicate 47 0))
    ∷ keeps_layout l most_kind (replicate 160 0 but (2, 2) but (12, 1) but (26, 2)) ∷ not (keeps_layout l most_kind (replicate 159 0 but (2, 2) but (12, 1) but (26, 2))) ∷ []

-- Nodes: kinds 1 to 6, unused fields 0, ops, sizes, children, arguments only under calls.
abbrev nodes : List Bool
nodes =
    breaks (p1 but (node 0 0, 0)) ∷ breaks (p1 but (node 0 0, 7))
    ∷ breaks (p1 but (node 0 7, 1)) ∷ breaks (p1 but (node 2 1, 1))
    ∷ keeps (p1 but (node 1 2, 43)) ∷ breaks (p1 but (node 1 2, 42))
    ∷ breaks (p1 but (node 0 3, 2)) ∷ breaks (p1 but (node 1 3, 1))
    ∷ breaks (p1 but (node 4 2, 0)) ∷ breaks (p1 but (node 3 0, 4) but (node 3 2, 45))
    ∷ breaks (p1 but (node 4 0, 4) but (node 4 1, 0) but (node 4 2, 45)) ∷ []

-- Trees, left before right, fill the nodes in order: tops that overlap, that leave a gap, right before left, and no statement 1.
abbrev trees : List Bool
trees =
    breaks (p1 but (stmt 1 2, 1)) ∷ breaks (p1 but (stmt 0 3, 0)) ∷ breaks (p1 but (stmt 1 2, 5) but (stmt 1 3, 4)) ∷ breaks ((take 264 p1 ++ drop 296 p1) but (1, 1)) ∷ []

-- Runs fill the dependents in order, and the first of an empty run is the running place.
abbrev runs : List Bool
runs =
    breaks (p1 but (variable 0 3, 1)) ∷ breaks (p1 but (variable 1 3, 1))
    ∷ breaks (p1 but (variable 1 4, 0) but (variable 1 2, 0)) ∷ breaks (p1 but (variable 1 4, 2))
    ∷ keeps (p1 but (variable 0 4, 1) but (variable 1 3, 1) but (variable 1 4, 0) but (variable 1 2, 0)) ∷ []

-- Spans of nodes, statements and errors: the missing ones of P1 and P2 keep the layout; start is at most end.
abbrev spans : List Bool
spans =
    keeps (p1 but (node 0 4, 5)) ∷ breaks (p1 but (node 0 5, 4294967294))
    ∷ keeps (p1 but (stmt 0 4, 5) but (stmt 0 5, 5)) ∷ breaks (p1 but (stmt 0 5, 4294967294))
    ∷ keeps (p2 but (error 2 1, 5)) ∷ breaks (p2 but (error 2 2, 4294967294)) ∷ []

-- Names are below 256: of a name node, a call, a rate equation; plus 1 of an argument, a variable, an error.
abbrev names : List Bool
names =
    keeps (p1 but (node 0 1, 255)) ∷ breaks (p1 but (node 0 1, 256))
    ∷ keeps (p1 but (node 4 1, 255)) ∷ breaks (p1 but (node 4 1, 256))
    ∷ keeps (p1 but (stmt 0 1, 255)) ∷ breaks (p1 but (stmt 0 1, 256))
    ∷ keeps (p1 but (node 3 1, 256)) ∷ breaks (p1 but (node 3 1, 257))
    ∷ keeps (p1 but (variable 1 0, 256)) ∷ breaks (p1 but (variable 1 0, 257))
    ∷ keeps (p2 but (error 1 3, 256)) ∷ breaks (p2 but (error 1 3, 257)) ∷ []

-- No two variables have one name, and only the first may be unnamed.
abbrev apart : List Bool
apart =
    breaks (p1 but (variable 1 0, 1)) ∷ keeps p6 ∷ breaks (p6 but (50, 2))
    ∷ keeps (p1 but (variable 0 0, 0)) ∷ breaks (p1 but (variable 1 0, 0)) ∷ []

-- Every kind exists: of statements 1 and 2, not 3, a submodel statement; of errors 1 to 17. An equation's name is 0, a rate equation's left is 0.
abbrev kinds : List Bool
kinds =
    breaks (p1 but (stmt 0 0, 0)) ∷ breaks (p1 but (stmt 0 0, 3)) ∷ keeps p7 ∷ breaks (p7 but (82, 3) but (83, 0)) ∷ breaks (p1 but (stmt 0 0, 4))
    ∷ breaks (p1 but (stmt 1 1, 1)) ∷ breaks (p1 but (stmt 0 2, 1))
    ∷ breaks (p2 but (error 0 0, 0)) ∷ keeps (p2 but (error 0 0, 1)) ∷ keeps (p2 but (error 0 0, 17)) ∷ breaks (p2 but (error 0 0, 18))
    ∷ keeps_layout plain 18 (p2 but (error 0 0, 18)) ∷ []

-- Every fate exists: 1 to 3 with a variable's number, 4 with variable 0.
abbrev fates : List Bool
fates =
    breaks (p1 but (stmt 0 6, 0)) ∷ keeps (p1 but (stmt 0 6, 1)) ∷ keeps (p1 but (stmt 0 6, 3)) ∷ breaks (p1 but (stmt 0 6, 5))
    ∷ keeps (p1 but (stmt 0 7, 0)) ∷ breaks (p1 but (stmt 0 7, 2))
    ∷ keeps (p1 but (stmt 0 6, 4) but (stmt 0 7, 0)) ∷ breaks (p1 but (stmt 0 6, 4)) ∷ []

-- Every 0/1 field: state, time-dependent.
abbrev flags : List Bool
flags =
    keeps (p1 but (variable 1 1, 0)) ∷ breaks (p1 but (variable 1 1, 2))
    ∷ keeps (p1 but (variable 1 7, 0)) ∷ breaks (p1 but (variable 1 7, 2)) ∷ []

-- Every number: a dependent, a time index plus 1, a held statement plus 1, initial conditions.
abbrev numbers : List Bool
numbers =
    keeps (p1 but (dependent, 1)) ∷ breaks (p1 but (dependent, 2))
    ∷ keeps (p1 but (variable 1 2, 0)) ∷ breaks (p1 but (variable 1 2, 2))
    ∷ keeps (p1 but (variable 1 5, 2)) ∷ breaks (p1 but (variable 1 5, 3))
    ∷ keeps (p1 but (variable 1 6, 2)) ∷ breaks (p1 but (variable 1 6, 3)) ∷ []

pub layout_table : List Bool
layout_table = counts ++ sections ++ longer ++ nodes ++ trees ++ runs ++ spans ++ names ++ apart ++ kinds ++ fates ++ flags ++ numbers

pub layout_examples : T (all (λ b. b) layout_table)
unfolding layout_table ◌but◌ functions·computes ast·computes definitions·computes
layout_examples = tt
