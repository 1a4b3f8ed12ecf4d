mod Imports
mod Marks
