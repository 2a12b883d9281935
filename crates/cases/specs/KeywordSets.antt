-- RULES.md 4.17: small keyword sets, and what is asked of them.
use Rattle.std.specs.Prelude.{◌≡◌, Bool, true, false, ◌&&◌, List, [], ◌∷◌, ◌++◌, ℕ, eqb, Result, Ok, Err}
use Rattle.bytes_at.specs.Bytes.{bytes}
use Rattle.bytes_at.specs.declared.Refusal.{Refusal}
use Rattle.keyword_rules.specs.declared.Field.{Field}
use Rattle.keyword_rules.specs.declared.Sought.TheVariants.{Value, Field as FieldOf}
use Rattle.keyword_rules.specs.Keywords.{search_at}

-- a String u, a record r that holds an Array a and an Int u, an Int r, and a record e with an empty description, whose value is a
-- whole TableRecord with a double x
unfoldable pub small_set : List ℕ
small_set =
    0 ∷ 0 ∷ 1 ∷ 52 ∷ 0 ∷ 0 ∷ 0 ∷ 11 ∷ 84 ∷ 97 ∷ 98 ∷ 108 ∷ 101 ∷ 82 ∷ 101 ∷ 99 ∷ 111 ∷ 114 ∷ 100 ∷ 0 ∷ 0 ∷ 0 ∷ 1 ∷ 0 ∷ 0 ∷
    0 ∷ 164 ∷ 0 ∷ 0 ∷ 0 ∷ 10 ∷ 82 ∷ 101 ∷ 99 ∷ 111 ∷ 114 ∷ 100 ∷ 68 ∷ 101 ∷ 115 ∷ 99 ∷ 0 ∷ 0 ∷ 0 ∷ 2 ∷ 0 ∷ 0 ∷ 0 ∷ 4 ∷ 0 ∷
    0 ∷ 0 ∷ 1 ∷ 117 ∷ 0 ∷ 0 ∷ 0 ∷ 11 ∷ 0 ∷ 0 ∷ 0 ∷ 0 ∷ 0 ∷ 0 ∷ 0 ∷ 1 ∷ 114 ∷ 0 ∷ 0 ∷ 0 ∷ 25 ∷ 0 ∷ 0 ∷ 0 ∷ 60 ∷ 0 ∷ 0 ∷ 0 ∷
    10 ∷ 82 ∷ 101 ∷ 99 ∷ 111 ∷ 114 ∷ 100 ∷ 68 ∷ 101 ∷ 115 ∷ 99 ∷ 0 ∷ 0 ∷ 0 ∷ 2 ∷ 0 ∷ 0 ∷ 0 ∷ 2 ∷ 0 ∷ 0 ∷ 0 ∷ 1 ∷ 97 ∷ 0 ∷ 0 ∷
    0 ∷ 18 ∷ 0 ∷ 0 ∷ 0 ∷ 1 ∷ 0 ∷ 0 ∷ 0 ∷ 2 ∷ 0 ∷ 0 ∷ 0 ∷ 0 ∷ 0 ∷ 0 ∷ 0 ∷ 1 ∷ 117 ∷ 0 ∷ 0 ∷ 0 ∷ 5 ∷ 0 ∷ 0 ∷ 0 ∷ 0 ∷ 0 ∷ 0 ∷
    0 ∷ 0 ∷ 0 ∷ 0 ∷ 0 ∷ 1 ∷ 114 ∷ 0 ∷ 0 ∷ 0 ∷ 5 ∷ 0 ∷ 0 ∷ 0 ∷ 0 ∷ 0 ∷ 0 ∷ 0 ∷ 1 ∷ 101 ∷ 0 ∷ 0 ∷ 0 ∷ 25 ∷ 0 ∷ 0 ∷ 0 ∷ 26 ∷ 0 ∷
    0 ∷ 0 ∷ 10 ∷ 82 ∷ 101 ∷ 99 ∷ 111 ∷ 114 ∷ 100 ∷ 68 ∷ 101 ∷ 115 ∷ 99 ∷ 0 ∷ 0 ∷ 0 ∷ 1 ∷ 0 ∷ 0 ∷ 0 ∷ 0 ∷ 0 ∷ 0 ∷ 0 ∷ 0 ∷ 0 ∷
    0 ∷ 0 ∷ 1 ∷ 0 ∷ 0 ∷ 0 ∷ 2 ∷ 74 ∷ 121 ∷ 0 ∷ 0 ∷ 0 ∷ 33 ∷ 0 ∷ 0 ∷ 0 ∷ 5 ∷ 65 ∷ 114 ∷ 114 ∷ 97 ∷ 121 ∷ 0 ∷ 0 ∷ 0 ∷ 3 ∷ 0 ∷
    0 ∷ 0 ∷ 1 ∷ 0 ∷ 0 ∷ 0 ∷ 2 ∷ 0 ∷ 0 ∷ 0 ∷ 10 ∷ 0 ∷ 0 ∷ 0 ∷ 20 ∷ 0 ∷ 0 ∷ 0 ∷ 7 ∷ 0 ∷ 0 ∷ 0 ∷ 9 ∷ 0 ∷ 0 ∷ 0 ∷ 70 ∷ 0 ∷ 0 ∷
    0 ∷ 11 ∷ 84 ∷ 97 ∷ 98 ∷ 108 ∷ 101 ∷ 82 ∷ 101 ∷ 99 ∷ 111 ∷ 114 ∷ 100 ∷ 0 ∷ 0 ∷ 0 ∷ 1 ∷ 0 ∷ 0 ∷ 0 ∷ 35 ∷ 0 ∷ 0 ∷ 0 ∷ 10 ∷
    82 ∷ 101 ∷ 99 ∷ 111 ∷ 114 ∷ 100 ∷ 68 ∷ 101 ∷ 115 ∷ 99 ∷ 0 ∷ 0 ∷ 0 ∷ 1 ∷ 0 ∷ 0 ∷ 0 ∷ 1 ∷ 0 ∷ 0 ∷ 0 ∷ 1 ∷ 120 ∷ 0 ∷ 0 ∷ 0 ∷
    8 ∷ 0 ∷ 0 ∷ 0 ∷ 1 ∷ 0 ∷ 0 ∷ 0 ∷ 0 ∷ 0 ∷ 0 ∷ 0 ∷ 0 ∷ []

-- records q in records, the eighth with an Int i
unfoldable pub eight_deep : List ℕ
eight_deep =
    0 ∷ 0 ∷ 1 ∷ 55 ∷ 0 ∷ 0 ∷ 0 ∷ 11 ∷ 84 ∷ 97 ∷ 98 ∷ 108 ∷ 101 ∷ 82 ∷ 101 ∷ 99 ∷ 111 ∷ 114 ∷ 100 ∷ 0 ∷ 0 ∷ 0 ∷ 1 ∷ 0 ∷ 0 ∷
    1 ∷ 24 ∷ 0 ∷ 0 ∷ 0 ∷ 10 ∷ 82 ∷ 101 ∷ 99 ∷ 111 ∷ 114 ∷ 100 ∷ 68 ∷ 101 ∷ 115 ∷ 99 ∷ 0 ∷ 0 ∷ 0 ∷ 1 ∷ 0 ∷ 0 ∷ 0 ∷ 1 ∷ 0 ∷ 0 ∷
    0 ∷ 1 ∷ 113 ∷ 0 ∷ 0 ∷ 0 ∷ 25 ∷ 0 ∷ 0 ∷ 0 ∷ 245 ∷ 0 ∷ 0 ∷ 0 ∷ 10 ∷ 82 ∷ 101 ∷ 99 ∷ 111 ∷ 114 ∷ 100 ∷ 68 ∷ 101 ∷ 115 ∷ 99 ∷
    0 ∷ 0 ∷ 0 ∷ 1 ∷ 0 ∷ 0 ∷ 0 ∷ 1 ∷ 0 ∷ 0 ∷ 0 ∷ 1 ∷ 113 ∷ 0 ∷ 0 ∷ 0 ∷ 25 ∷ 0 ∷ 0 ∷ 0 ∷ 210 ∷ 0 ∷ 0 ∷ 0 ∷ 10 ∷ 82 ∷ 101 ∷ 99 ∷
    111 ∷ 114 ∷ 100 ∷ 68 ∷ 101 ∷ 115 ∷ 99 ∷ 0 ∷ 0 ∷ 0 ∷ 1 ∷ 0 ∷ 0 ∷ 0 ∷ 1 ∷ 0 ∷ 0 ∷ 0 ∷ 1 ∷ 113 ∷ 0 ∷ 0 ∷ 0 ∷ 25 ∷ 0 ∷ 0 ∷
    0 ∷ 175 ∷ 0 ∷ 0 ∷ 0 ∷ 10 ∷ 82 ∷ 101 ∷ 99 ∷ 111 ∷ 114 ∷ 100 ∷ 68 ∷ 101 ∷ 115 ∷ 99 ∷ 0 ∷ 0 ∷ 0 ∷ 1 ∷ 0 ∷ 0 ∷ 0 ∷ 1 ∷ 0 ∷
    0 ∷ 0 ∷ 1 ∷ 113 ∷ 0 ∷ 0 ∷ 0 ∷ 25 ∷ 0 ∷ 0 ∷ 0 ∷ 140 ∷ 0 ∷ 0 ∷ 0 ∷ 10 ∷ 82 ∷ 101 ∷ 99 ∷ 111 ∷ 114 ∷ 100 ∷ 68 ∷ 101 ∷ 115 ∷
    99 ∷ 0 ∷ 0 ∷ 0 ∷ 1 ∷ 0 ∷ 0 ∷ 0 ∷ 1 ∷ 0 ∷ 0 ∷ 0 ∷ 1 ∷ 113 ∷ 0 ∷ 0 ∷ 0 ∷ 25 ∷ 0 ∷ 0 ∷ 0 ∷ 105 ∷ 0 ∷ 0 ∷ 0 ∷ 10 ∷ 82 ∷ 101 ∷
    99 ∷ 111 ∷ 114 ∷ 100 ∷ 68 ∷ 101 ∷ 115 ∷ 99 ∷ 0 ∷ 0 ∷ 0 ∷ 1 ∷ 0 ∷ 0 ∷ 0 ∷ 1 ∷ 0 ∷ 0 ∷ 0 ∷ 1 ∷ 113 ∷ 0 ∷ 0 ∷ 0 ∷ 25 ∷ 0 ∷
    0 ∷ 0 ∷ 70 ∷ 0 ∷ 0 ∷ 0 ∷ 10 ∷ 82 ∷ 101 ∷ 99 ∷ 111 ∷ 114 ∷ 100 ∷ 68 ∷ 101 ∷ 115 ∷ 99 ∷ 0 ∷ 0 ∷ 0 ∷ 1 ∷ 0 ∷ 0 ∷ 0 ∷ 1 ∷ 0 ∷
    0 ∷ 0 ∷ 1 ∷ 113 ∷ 0 ∷ 0 ∷ 0 ∷ 25 ∷ 0 ∷ 0 ∷ 0 ∷ 35 ∷ 0 ∷ 0 ∷ 0 ∷ 10 ∷ 82 ∷ 101 ∷ 99 ∷ 111 ∷ 114 ∷ 100 ∷ 68 ∷ 101 ∷ 115 ∷
    99 ∷ 0 ∷ 0 ∷ 0 ∷ 1 ∷ 0 ∷ 0 ∷ 0 ∷ 1 ∷ 0 ∷ 0 ∷ 0 ∷ 1 ∷ 105 ∷ 0 ∷ 0 ∷ 0 ∷ 5 ∷ 0 ∷ 0 ∷ 0 ∷ 1 ∷ 0 ∷ 0 ∷ 0 ∷ 3 ∷ []

-- the same with one record more
unfoldable pub nine_deep : List ℕ
nine_deep =
    0 ∷ 0 ∷ 1 ∷ 90 ∷ 0 ∷ 0 ∷ 0 ∷ 11 ∷ 84 ∷ 97 ∷ 98 ∷ 108 ∷ 101 ∷ 82 ∷ 101 ∷ 99 ∷ 111 ∷ 114 ∷ 100 ∷ 0 ∷ 0 ∷ 0 ∷ 1 ∷ 0 ∷ 0 ∷
    1 ∷ 59 ∷ 0 ∷ 0 ∷ 0 ∷ 10 ∷ 82 ∷ 101 ∷ 99 ∷ 111 ∷ 114 ∷ 100 ∷ 68 ∷ 101 ∷ 115 ∷ 99 ∷ 0 ∷ 0 ∷ 0 ∷ 1 ∷ 0 ∷ 0 ∷ 0 ∷ 1 ∷ 0 ∷ 0 ∷
    0 ∷ 1 ∷ 113 ∷ 0 ∷ 0 ∷ 0 ∷ 25 ∷ 0 ∷ 0 ∷ 1 ∷ 24 ∷ 0 ∷ 0 ∷ 0 ∷ 10 ∷ 82 ∷ 101 ∷ 99 ∷ 111 ∷ 114 ∷ 100 ∷ 68 ∷ 101 ∷ 115 ∷ 99 ∷
    0 ∷ 0 ∷ 0 ∷ 1 ∷ 0 ∷ 0 ∷ 0 ∷ 1 ∷ 0 ∷ 0 ∷ 0 ∷ 1 ∷ 113 ∷ 0 ∷ 0 ∷ 0 ∷ 25 ∷ 0 ∷ 0 ∷ 0 ∷ 245 ∷ 0 ∷ 0 ∷ 0 ∷ 10 ∷ 82 ∷ 101 ∷ 99 ∷
    111 ∷ 114 ∷ 100 ∷ 68 ∷ 101 ∷ 115 ∷ 99 ∷ 0 ∷ 0 ∷ 0 ∷ 1 ∷ 0 ∷ 0 ∷ 0 ∷ 1 ∷ 0 ∷ 0 ∷ 0 ∷ 1 ∷ 113 ∷ 0 ∷ 0 ∷ 0 ∷ 25 ∷ 0 ∷ 0 ∷
    0 ∷ 210 ∷ 0 ∷ 0 ∷ 0 ∷ 10 ∷ 82 ∷ 101 ∷ 99 ∷ 111 ∷ 114 ∷ 100 ∷ 68 ∷ 101 ∷ 115 ∷ 99 ∷ 0 ∷ 0 ∷ 0 ∷ 1 ∷ 0 ∷ 0 ∷ 0 ∷ 1 ∷ 0 ∷
    0 ∷ 0 ∷ 1 ∷ 113 ∷ 0 ∷ 0 ∷ 0 ∷ 25 ∷ 0 ∷ 0 ∷ 0 ∷ 175 ∷ 0 ∷ 0 ∷ 0 ∷ 10 ∷ 82 ∷ 101 ∷ 99 ∷ 111 ∷ 114 ∷ 100 ∷ 68 ∷ 101 ∷ 115 ∷
    99 ∷ 0 ∷ 0 ∷ 0 ∷ 1 ∷ 0 ∷ 0 ∷ 0 ∷ 1 ∷ 0 ∷ 0 ∷ 0 ∷ 1 ∷ 113 ∷ 0 ∷ 0 ∷ 0 ∷ 25 ∷ 0 ∷ 0 ∷ 0 ∷ 140 ∷ 0 ∷ 0 ∷ 0 ∷ 10 ∷ 82 ∷ 101 ∷
    99 ∷ 111 ∷ 114 ∷ 100 ∷ 68 ∷ 101 ∷ 115 ∷ 99 ∷ 0 ∷ 0 ∷ 0 ∷ 1 ∷ 0 ∷ 0 ∷ 0 ∷ 1 ∷ 0 ∷ 0 ∷ 0 ∷ 1 ∷ 113 ∷ 0 ∷ 0 ∷ 0 ∷ 25 ∷ 0 ∷
    0 ∷ 0 ∷ 105 ∷ 0 ∷ 0 ∷ 0 ∷ 10 ∷ 82 ∷ 101 ∷ 99 ∷ 111 ∷ 114 ∷ 100 ∷ 68 ∷ 101 ∷ 115 ∷ 99 ∷ 0 ∷ 0 ∷ 0 ∷ 1 ∷ 0 ∷ 0 ∷ 0 ∷ 1 ∷
    0 ∷ 0 ∷ 0 ∷ 1 ∷ 113 ∷ 0 ∷ 0 ∷ 0 ∷ 25 ∷ 0 ∷ 0 ∷ 0 ∷ 70 ∷ 0 ∷ 0 ∷ 0 ∷ 10 ∷ 82 ∷ 101 ∷ 99 ∷ 111 ∷ 114 ∷ 100 ∷ 68 ∷ 101 ∷
    115 ∷ 99 ∷ 0 ∷ 0 ∷ 0 ∷ 1 ∷ 0 ∷ 0 ∷ 0 ∷ 1 ∷ 0 ∷ 0 ∷ 0 ∷ 1 ∷ 113 ∷ 0 ∷ 0 ∷ 0 ∷ 25 ∷ 0 ∷ 0 ∷ 0 ∷ 35 ∷ 0 ∷ 0 ∷ 0 ∷ 10 ∷ 82 ∷
    101 ∷ 99 ∷ 111 ∷ 114 ∷ 100 ∷ 68 ∷ 101 ∷ 115 ∷ 99 ∷ 0 ∷ 0 ∷ 0 ∷ 1 ∷ 0 ∷ 0 ∷ 0 ∷ 1 ∷ 0 ∷ 0 ∷ 0 ∷ 1 ∷ 105 ∷ 0 ∷ 0 ∷ 0 ∷ 5 ∷
    0 ∷ 0 ∷ 0 ∷ 1 ∷ 0 ∷ 0 ∷ 0 ∷ 3 ∷ []

-- a path of names of one letter
abbrev pub path : List ℕ → List ℕ
path [] = []
path (letter ∷ rest) = 0 ∷ 0 ∷ 0 ∷ 1 ∷ letter ∷ path rest

abbrev gives : Result Field Refusal → ℕ → ℕ → ℕ → Bool
gives (Ok x) number start len = eqb x.number number && eqb x.start start && eqb x.len len
gives (Err why) number start len = false

abbrev named : Result Field Refusal → ℕ → ℕ → Bool
named (Ok x) name len = eqb x.name name && eqb x.name_len len
named (Err why) name len = false

abbrev refuses : Result Field Refusal → ℕ → ℕ → Bool
refuses (Ok x) number byte = false
refuses (Err why) number byte = eqb why.number number && eqb why.byte byte

unfoldable pub keyword_cases : Bool
keyword_cases =
    gives (search_at small_set (path (bytes "u")) Value 0) 11 191 6
    && gives (search_at small_set (path (bytes "r")) Value 0) 25 197 37
    && gives (search_at small_set (path (bytes "ra")) Value 0) 18 197 33
    && gives (search_at small_set (path (bytes "ru")) Value 0) 5 230 4
    && gives (search_at small_set (path (bytes "e")) Value 0) 25 238 70
    && gives (search_at small_set (path (bytes "ex")) Value 0) 8 300 8
    && refuses (search_at small_set (path (bytes "uu")) Value 0) 16 0
    && refuses (search_at small_set [] Value 0) 16 0
    && refuses (search_at small_set (path (bytes "u") ++ 0 ∷ []) Value 0) 16 0
    && gives (search_at small_set [] (FieldOf 2) 0) 5 234 4
    && named (search_at small_set [] (FieldOf 2) 0) 139 1
    && gives (search_at small_set (path (bytes "e")) (FieldOf 0) 0) 8 300 8
    && refuses (search_at small_set (path (bytes "e")) (FieldOf 1) 0) 16 0
    && refuses (search_at small_set (path (bytes "u")) (FieldOf 0) 0) 16 0
    && gives (search_at eight_deep (path (bytes "qqqqqqqi")) Value 0) 5 307 4
    && refuses (search_at nine_deep [] Value 0) 15 0

-- The answers that the bytes give, by computing.
abbrev pub KeywordsRight : Type 0
KeywordsRight = keyword_cases ≡ true
